use Rattle.std.proofs.Common.{◌≡◌, take, pos, ◌+ℤ◌, fold}
use Rattle.walkthrough.proofs.chain.chained.Given as goal

abbrev pub invariant-loop-length : goal.invariant-loop-length
invariant-loop-length g l = g.T.Arithmetic.value l.sum ≡ g.T.Arithmetic.field.ops.bring (fold ◌+ℤ◌ (pos 0) (take l.length-index l.lengths))
