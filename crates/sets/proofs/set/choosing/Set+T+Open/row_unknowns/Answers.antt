use Rattle.std.proofs.Common.{◌≡◌, ◌≤◌, length, take, ap, ◌∙◌, arith, rules}
use Rattle.columns.specs.Swaps.{joined}
use Rattle.columns.specs.Panels.{Swaps, offsets, swap_refusal}
use Rattle.columns.proofs.Places.{joined_low}
use Rattle.sets.specs.Pivots.{PivotsWithin}
use Rattle.sets.specs.Memory.{packed, stored}
use Rattle.sets.proofs.Runs.{one_column, swaps_empty, first_swapped}
use Rattle.sets.proofs.Accepted.{accepted, first_inside, swap_accepted}
use Rattle.sets.proofs.Rests.{numbers_swapped}
use Rattle.sets.proofs.set.choosing.Set+T+Open.row_unknowns.Goals as goal

pub returns : goal.returns
unfolding stored packed
returns g c =
    let s = c.args.self.now in
    let r = s.held in
    let first = take r s.pivots in
    let xs = c.numbers-rows.result in
    let ys = c.swap_panel.new.panel in
    let all : length xs ≡ 96 = search rules in
    let enough : r ≤ length s.pivots = search rules in
    let wide : PivotsWithin 96 r s.pivots = λ k l. omega (arith, s.inside k l, s.size) in
    let inside = first_inside 96 r s.pivots enough wide in
    let each = accepted _ c.swap_panel.result c.swap_panel.ensures.refused (ap (λ n. swap_refusal n 96 first) all ∙ swap_accepted 96 first inside) c.swap_panel.ensures.swapped in
    let swaps = one_column (Swaps first) 96 xs ys all (c.swap_panel.auto.panel ∙ all) (swaps_empty first 96 inside) each in
    numbers_swapped (joined r (offsets s.pivots) (λ k. 0)) r xs ys (λ k l. omega (arith, wide k l, joined_low r (offsets s.pivots) (λ k. 0) k l)) all c.swap_panel.auto.panel c.numbers-rows.ensures
    (swaps ∙ first_swapped r s.pivots enough _)
