use Rattle.std.proofs.Common.{◌≡◌, ◌+◌, None}
use Rattle.arithmetic.specs.Runs.{row}
use Rattle.columns.specs.Factors.{lead}
use Rattle.sets.proofs.factors.Factors.leading.Given as goal

abbrev pub invariant-loop-i : goal.invariant-loop-i
invariant-loop-i g l =
    let F = g.T.Arithmetic.field.ops in
    let value = g.T.Arithmetic.value in
    lead F l.i (λ i. row F value l.column (l.self.rank + i)) ≡ None
