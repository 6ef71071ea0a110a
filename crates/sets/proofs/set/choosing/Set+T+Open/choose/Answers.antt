use Rattle.std.proofs.Common.{◌≡◌, ℕ, ◌+◌, ◌-◌, length, take, drop, ap, ◌∙◌, arith, rules}
use Rattle.sets.specs.Memory.{packed, stored}
use Rattle.sets.specs.Sets.{state, next_column}
use Rattle.sets.proofs.Runs.{row_part}
use Rattle.sets.proofs.Dots.{part_length}
use Rattle.sets.proofs.Rests.{picked_from}
use Rattle.sets.proofs.set.choosing.Set+T+Open.choose.Goals as goal

pub returns : goal.returns
unfolding stored packed
returns g c =
    let F = g.T.Arithmetic.field.ops in
    let value = g.T.Arithmetic.value in
    let s = c.args.self.now in
    let r = s.held in
    let next = c.next.result.now in
    let high = c.next.ensures.high in
    let n = length next - r in
    let rest = take n (drop r next) in
    let codes = c.codes_of-codes.result in
    let rows = c.row_unknowns-rows.result in
    let a : length codes ≡ 96 = search rules in
    let b : length rows ≡ 96 = search rules in
    let long = part_length r (length next) next (omega (arith, s.few)) (omega arith) in
    c.choose.ensures
    ∙ picked_from F (state F value s) (next_column F value s) (g.C.Chooser.pick c.args.chooser.now) (length rest) s.unknowns codes rows (omega arith) (omega arith) a b s.few s.size
    (λ k l. c.codes_of-codes.ensures k l ∙ ap F.code (row_part F value r n next k (omega arith) ∙ ap (λ (t : ℕ → g.T.Arithmetic.field.Carrier). t (r + k)) c.next.ensures.values))
    c.row_unknowns-rows.ensures
