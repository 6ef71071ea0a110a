use Rattle.std.proofs.Common.{take, ap, ◌∙◌}
use Rattle.columns.specs.Panels.{Swaps, swap_refusal}
use Rattle.sets.specs.Memory.{packed}
use Rattle.sets.proofs.Runs.{one_column, swaps_values, swaps_empty}
use Rattle.sets.proofs.Accepted.{accepted, first_inside, swap_accepted}
use Rattle.sets.proofs.factors.Factors.permute.Goals as goal

pub returns : goal.returns
unfolding packed
returns g c =
    let s = c.args.self.now in
    let first = take s.rank s.pivots.now in
    let start = c.args.column.now in
    let inside = first_inside s.height s.rank s.pivots.now s.counted s.inside in
    let whole = ap (λ n. swap_refusal n s.height first) c.requires ∙ swap_accepted s.height first inside in
    let each = accepted _ c.swap_panel.result c.swap_panel.ensures.refused whole c.swap_panel.ensures.swapped in
    let all = one_column (Swaps first) s.height start c.swap_panel.new.panel c.requires (c.swap_panel.auto.panel ∙ c.requires) (swaps_empty first s.height inside) each in
    swaps_values g.T.Arithmetic.field.ops g.T.Arithmetic.value s.rank s.pivots.now s.counted start c.swap_panel.new.panel all
