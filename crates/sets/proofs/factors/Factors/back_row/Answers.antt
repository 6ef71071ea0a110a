use Rattle.std.proofs.Common.{◌≡◌, ℕ, ◌≤◌, length, sym, ap, ◌∙◌, ap₂, arith}
use Rattle.std.proofs.lemmas.List.{length-take-le}
use Rattle.arithmetic.specs.Runs.{row}
use Rattle.arithmetic.proofs.Rows.{row_inside}
use Rattle.columns.specs.Swaps.{put, joined}
use Rattle.columns.specs.Panels.{cells}
use Rattle.columns.proofs.Places.{joined_high}
use Rattle.columns.proofs.Panels.{row_set}
use Rattle.sets.specs.Workings.{less_share, back_step}
use Rattle.sets.proofs.Runs.{joined_none, row_written}
use Rattle.sets.proofs.Packings.{item_cell}
use Rattle.sets.proofs.factors.Factors.back_row.Goals as goal

pub loop-i-init : goal.loop-i-init
loop-i-init g c = joined_none _ (row g.T.Arithmetic.field.ops g.T.Arithmetic.value c.args.run.now)

pub loop-i-preserved : goal.loop-i-preserved
loop-i-preserved g c =
    let F = g.T.Arithmetic.field.ops in
    let value = g.T.Arithmetic.value in
    let s = c.args.self.now in
    let n = c.args.n in
    let i = c.loop-i.i in
    let xs = c.loop-i.run in
    let column = c.column.result.now in
    let y = row F value c.args.run.now in
    let f = less_share F (cells F value s.height s.columns.now) n (value c.product-x.result) y in
    let high = c.column.ensures.high in
    let short : n ≤ length column = omega (arith, s.fits) in
    let long = length-take-le n column short in
    let factor = item_cell F value s.height s.columns.now column n n i c.factor-item.result c.column.ensures.rows short (omega arith) c.factor-item.is in
    let old = sym (row_inside F value xs i c.index-run-i.result (omega arith) c.index-run-i.is) ∙ ap (λ (a : ℕ → g.T.Arithmetic.field.Carrier). a i) c.loop-i.invariant ∙ joined_high i f y i (omega arith) in
    row_written F value xs i c.difference.result f y (omega arith)
    (c.difference.ensures ∙ ap₂ (λ a p. F.sum a (F.negative p)) old (c.product.ensures ∙ ap (λ u. F.product u (value c.product-x.result)) factor))
    c.loop-i.invariant

pub returns : goal.returns
unfolding back_step
returns g c =
    let F = g.T.Arithmetic.field.ops in
    let value = g.T.Arithmetic.value in
    let s = c.args.self.now in
    let n = c.args.n in
    let start = c.args.run.now in
    let y = row F value start in
    let U = cells F value s.height s.columns.now in
    let long = length-take-le n c.column.result.now (omega (arith, s.fits, c.column.ensures.high)) in
    let all : c.loop-i.i ≡ n = omega arith in
    let x = c.product-x.ensures ∙ ap₂ F.product (c.inverse.ensures ∙ ap F.inverse c.entry.ensures) (sym (row_inside F value start n c.index-run-n.result (omega arith) c.index-run-n.is)) in
    row_set F value c.loop-i.run n c.product-x.result (omega arith)
    ∙ ap (put n (value c.product-x.result)) (c.loop-i.invariant ∙ ap (λ k. joined k (less_share F U n (value c.product-x.result) y) y) all)
    ∙ ap (λ v. put n v (joined n (less_share F U n v y) y)) x
