use Rattle.std.proofs.Common.{◌≡◌, ℕ, ◌<◌, length, get_or}
use Rattle.arithmetic.specs.Runs.{row}
use Rattle.sets.proofs.set.choosing.codes_of.Given as goal

abbrev pub invariant-loop-i : goal.invariant-loop-i
invariant-loop-i g l =
    let F = g.T.Arithmetic.field.ops in
    ((k : ℕ) → k < l.i → get_or l.codes k 0 ≡ F.code (row F g.T.Arithmetic.value l.rest k)) × (length l.codes ≡ 96)
