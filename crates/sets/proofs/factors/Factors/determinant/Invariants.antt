use Rattle.std.proofs.Common.{◌≡◌}
use Rattle.sets.specs.Lent.{lent}
use Rattle.sets.proofs.Signs.{signed}
use Rattle.sets.proofs.factors.Factors.determinant.Given as goal

abbrev pub invariant-loop-k : goal.invariant-loop-k
invariant-loop-k g l =
    let F = g.T.Arithmetic.field.ops in
    let s = lent F g.T.Arithmetic.value l.self in
    g.T.Arithmetic.value l.product ≡ signed F g.met.T.Arithmetic.lawful s.offset s.entry l.k
