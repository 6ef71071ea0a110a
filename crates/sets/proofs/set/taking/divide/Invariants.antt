use Rattle.std.proofs.Common.{◌≡◌, ℕ, ◌<◌, ◌≤◌}
use Rattle.arithmetic.specs.Runs.{row}
use Rattle.sets.proofs.set.taking.divide.Given as goal

abbrev pub invariant-loop-x : goal.invariant-loop-x
invariant-loop-x g l =
    let F = g.T.Arithmetic.field.ops in
    let value = g.T.Arithmetic.value in
    ((k : ℕ) → k < l.x-index → row F value l.x-items k ≡ F.product (row F value l.initial.x-items k) (value l.inverse))
    × ((k : ℕ) → l.x-index ≤ k → row F value l.x-items k ≡ row F value l.initial.x-items k)
