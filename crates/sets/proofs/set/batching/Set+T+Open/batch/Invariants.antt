use Rattle.std.proofs.Common.{◌≡◌, ◌-◌, ◌*◌, ◌≤◌, ◌++◌, length, map, drop}
use Rattle.sets.specs.States.{verdict_number}
use Rattle.sets.specs.Sets.{state, surplus}
use Rattle.sets.proofs.Batching.{first_in_turn}
use Rattle.sets.proofs.set.batching.Set+T+Open.batch.Given as goal

-- the columns before `start` were judged in turn
abbrev pub invariant-loop-start : goal.invariant-loop-start
invariant-loop-start g l =
    let F = g.T.Arithmetic.field.ops in
    let value = g.T.Arithmetic.value in
    let s = l.initial.self in
    let e = first_in_turn F value (g.C.Chooser.pick l.chooser) s.unknowns l.columns l.targets (state F value s) l.start in
    (l.start ≤ length l.targets) × (state F value l.self ≡ e.1) × (l.verdicts ≡ map verdict_number e.0 ++ drop l.start l.initial.verdicts)
    × (l.self.unknowns ≡ s.unknowns) × (surplus l.self ≡ surplus s) × (l.self.refusal ≡ s.refusal)
    × (drop (l.width * s.unknowns) l.work ≡ drop (l.width * s.unknowns) l.initial.work)

abbrev pub decreases-loop-start : goal.decreases-loop-start
decreases-loop-start g l = length l.targets - l.start
