use Rattle.std.proofs.Common.{◌*◌, ◌/◌, ◌%◌, ◌<◌, length, take, sym, ap, ◌∙◌, subst}
use Rattle.std.proofs.lemmas.List.{length-take-le}
use Rattle.arithmetic.specs.Runs.{row}
use Rattle.columns.specs.Panels.{column_of, cells, solved, reduced}
use Rattle.sets.specs.Memory.{packed}
use Rattle.sets.proofs.Runs.{swaps_values}
use Rattle.sets.proofs.Accepted.{accepted, first_inside, swap_whole, factor_whole}
use Rattle.sets.proofs.Packings.{worked_apart}
use Rattle.sets.proofs.factors.Factors.work_panel.Goals as goal

pub returns : goal.returns
unfolding packed
returns g c j l =
    let F = g.T.Arithmetic.field.ops in
    let W = g.met.T.Arithmetic.lawful in
    let value = g.T.Arithmetic.value in
    let f = c.args.self.now in
    let r = f.rank in
    let m = f.height in
    let start = c.args.panel.now in
    let p = c.swap_panel.new.panel in
    let s = c.solve_panel.new.panel in
    let factors = take (r * m) f.columns.now in
    let L = cells F value m factors in
    let first = take r f.pivots.now in
    let long = length-take-le (r * m) f.columns.now f.stored in
    let same = c.swap_panel.auto.panel in
    let still = c.solve_panel.auto.panel ∙ same in
    let swapped = accepted _ c.swap_panel.result c.swap_panel.ensures.refused (swap_whole (length start) m first c.requires (first_inside m r f.pivots.now f.counted f.inside)) c.swap_panel.ensures.swapped j l in
    let solves = accepted _ c.solve_panel.result c.solve_panel.ensures.refused (factor_whole (length factors) m r (length p) long f.fits (ap (λ n. n % m) same ∙ c.requires)) c.solve_panel.ensures.solved j
    (subst (λ n. j < n / m) (sym same) l) in
    let reduces = accepted _ c.subtract_product.result c.subtract_product.ensures.refused (factor_whole (length factors) m r (length s) long f.fits (ap (λ n. n % m) still ∙ c.requires)) c.subtract_product.ensures.reduced j
    (subst (λ n. j < n / m) (sym still) l) in
    reduces.values
    ∙ ap (reduced F L r) (solves.values ∙ ap (solved F L r) (swaps_values F value r f.pivots.now f.counted (column_of m start j) (column_of m p j) swapped))
    ∙ sym (worked_apart F W value m r f.columns.now f.pivots.now (row F value (column_of m start j)))
