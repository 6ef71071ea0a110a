use Rattle.arithmetic.specs.Runs.{row}
use Rattle.columns.specs.Factors.{lower}
use Rattle.sets.specs.Lent.{lent}
use Rattle.sets.proofs.Settlings.{Settling}
use Rattle.sets.proofs.factors.Factors.settle.Given as goal

abbrev pub invariant-loop-k : goal.invariant-loop-k
invariant-loop-k g l =
    let F = g.T.Arithmetic.field.ops in
    let value = g.T.Arithmetic.value in
    Settling F (lower F (lent F value l.self)) l.self.height (row F value l.initial.run) l.self.rank l.k (row F value l.run)
