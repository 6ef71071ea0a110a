use Rattle.std.proofs.Common.{◌*◌, length, take, sym, ap, ◌∙◌, arith}
use Rattle.std.proofs.lemmas.List.{length-take-le}
use Rattle.arithmetic.specs.Runs.{row}
use Rattle.columns.specs.Panels.{cells, solved, reduced, Solves, Reduces}
use Rattle.sets.specs.Memory.{packed}
use Rattle.sets.proofs.Runs.{one_column}
use Rattle.sets.proofs.Accepted.{accepted, factor_accepted}
use Rattle.sets.proofs.Packings.{worked_apart, solves_empty, reduces_empty}
use Rattle.sets.proofs.factors.Factors.work.Goals as goal

pub returns : goal.returns
unfolding packed
returns g c =
    let F = g.T.Arithmetic.field.ops in
    let W = g.met.T.Arithmetic.lawful in
    let value = g.T.Arithmetic.value in
    let f = c.args.self.now in
    let r = f.rank in
    let m = f.height in
    let memory = f.columns.now in
    let start = c.args.column.now in
    let p = c.permute.new.column in
    let s = c.solve_panel.new.panel in
    let t = c.subtract_product.new.panel in
    let factors = take (r * m) memory in
    let L = cells F value m factors in
    let fits = f.fits in
    let long = length-take-le (r * m) memory f.stored in
    let high = c.permute.auto.column ∙ c.requires in
    let solves = one_column (Solves F value L r) m p s high (c.solve_panel.auto.panel ∙ high) (λ e. solves_empty F W value L r (omega arith))
    (accepted _ c.solve_panel.result c.solve_panel.ensures.refused (factor_accepted (length factors) m r (length p) long fits high) c.solve_panel.ensures.solved) in
    let reduces = one_column (Reduces F value L r) m s t (c.solve_panel.auto.panel ∙ high) (c.subtract_product.auto.panel ∙ c.solve_panel.auto.panel ∙ high) (reduces_empty F W value factors m r fits)
    (accepted _ c.subtract_product.result c.subtract_product.ensures.refused (factor_accepted (length factors) m r (length s) long fits (c.solve_panel.auto.panel ∙ high)) c.subtract_product.ensures.reduced) in
    reduces.values ∙ ap (reduced F L r) (solves.values ∙ ap (solved F L r) c.permute.ensures)
    ∙ sym (worked_apart F W value m r memory f.pivots.now (row F value start))
