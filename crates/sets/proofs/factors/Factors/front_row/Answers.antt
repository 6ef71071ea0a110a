use Rattle.std.proofs.Common.{ℕ, take, sym, refl, ap, ◌∙◌, ap₂, arith}
use Rattle.std.proofs.lemmas.List.{length-take-le}
use Rattle.arithmetic.specs.Runs.{row}
use Rattle.arithmetic.proofs.Rows.{row_inside}
use Rattle.columns.specs.Panels.{cells}
use Rattle.sets.proofs.Runs.{row_take}
use Rattle.sets.proofs.Dots.{dot_runs}
use Rattle.sets.proofs.factors.Factors.front_row.Goals as goal

pub returns : goal.returns
returns g c =
    let F = g.T.Arithmetic.field.ops in
    let value = g.T.Arithmetic.value in
    let s = c.args.self.now in
    let n = c.args.n in
    let run = c.args.run.now in
    let factors = c.column-factors.result.now in
    let high = c.column-factors.ensures.high in
    let fits = s.fits in
    let rows = ap (row F value) c.column-factors.ensures.rows in
    let long = length-take-le n factors (omega arith) in
    let share = c.sum_of_products-share.ensures
    ∙ dot_runs F value n run (take n factors) (row F value run) (cells F value s.height s.columns.now n) (omega arith) (λ k l. refl) (λ k l. row_take F value n factors k l ∙ ap (λ (x : ℕ → g.T.Arithmetic.field.Carrier). x k) rows) in
    let target = sym (row_inside F value c.args.targets.now n c.index-targets-n.result (omega arith) c.index-targets-n.is) in
    let last = c.inverse.ensures
    ∙ ap F.inverse (sym (row_inside F value factors n c.index-factors-n.result (omega arith) c.index-factors-n.is) ∙ ap (λ (x : ℕ → g.T.Arithmetic.field.Carrier). x n) rows) in
    c.product.ensures ∙ ap₂ F.product (c.difference.ensures ∙ ap₂ (λ a b. F.sum a (F.negative b)) target share) last
