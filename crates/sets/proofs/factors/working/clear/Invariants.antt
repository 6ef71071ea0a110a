use Rattle.std.proofs.Common.{◌≡◌, ℕ, ◌<◌}
use Rattle.arithmetic.specs.Runs.{row}
use Rattle.sets.proofs.factors.working.clear.Given as goal

-- the first ones are zero
abbrev pub invariant-loop-x : goal.invariant-loop-x
invariant-loop-x g l =
    let F = g.T.Arithmetic.field.ops in
    let value = g.T.Arithmetic.value in
    (k : ℕ) → k < l.x-index → row F value l.x-items k ≡ F.zero
