use Rattle.columns.proofs.Pivots.{InsideLeft}
use Rattle.columns.proofs.workings.inside.Given as goal

abbrev pub invariant-loop-k : goal.invariant-loop-k
invariant-loop-k l = InsideLeft l.height l.pivots l.k
