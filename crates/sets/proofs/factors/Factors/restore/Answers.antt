use Rattle.std.proofs.Common.{take, ap, ◌∙◌}
use Rattle.columns.specs.Panels.{Unswaps, swap_refusal}
use Rattle.sets.specs.Memory.{packed}
use Rattle.sets.proofs.Runs.{one_column, unswaps_values, unswaps_empty}
use Rattle.sets.proofs.Accepted.{accepted, first_inside, swap_accepted}
use Rattle.sets.proofs.factors.Factors.restore.Goals as goal

pub returns : goal.returns
unfolding packed
returns g c =
    let s = c.args.self.now in
    let first = take s.rank s.pivots.now in
    let start = c.args.column.now in
    let inside = first_inside s.height s.rank s.pivots.now s.counted s.inside in
    let whole = ap (λ n. swap_refusal n s.height first) c.requires ∙ swap_accepted s.height first inside in
    let each = accepted _ c.unswap_panel.result c.unswap_panel.ensures.refused whole c.unswap_panel.ensures.unswapped in
    let all = one_column (Unswaps first) s.height start c.unswap_panel.new.panel c.requires (c.unswap_panel.auto.panel ∙ c.requires) (unswaps_empty first s.height inside) each in
    unswaps_values g.T.Arithmetic.field.ops g.T.Arithmetic.value s.rank s.pivots.now s.counted start c.unswap_panel.new.panel all
