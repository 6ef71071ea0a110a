use Rattle.std.proofs.Common.{◌≡◌}
use Rattle.columns.specs.Swaps.{joined, exchange}
use Rattle.columns.specs.Panels.{cells}
use Rattle.sets.proofs.set.taking.exchange_rows.Given as goal

abbrev pub invariant-loop-j : goal.invariant-loop-j
invariant-loop-j g l =
    let F = g.T.Arithmetic.field.ops in
    let value = g.T.Arithmetic.value in
    let M = cells F value l.height l.initial.memory in
    cells F value l.height l.memory ≡ joined l.j (λ j i. M j (exchange l.a l.b i)) M
