use Rattle.std.proofs.Common.{◌≡◌}
use Rattle.arithmetic.specs.Runs.{total}
use Rattle.columns.specs.Factors.{lower, upper}
use Rattle.sets.specs.Lent.{lent}
use Rattle.sets.proofs.factors.Factors.product_entry.Given as goal

abbrev pub invariant-loop-k : goal.invariant-loop-k
invariant-loop-k g l =
    let F = g.T.Arithmetic.field.ops in
    let value = g.T.Arithmetic.value in
    let s = lent F value l.self in
    value l.sum ≡ total F l.k (λ k. F.product (lower F s k l.i) (upper F s l.j k))
