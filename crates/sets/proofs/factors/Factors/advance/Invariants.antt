use Rattle.std.proofs.Common.{◌≡◌, ◌+◌}
use Rattle.arithmetic.specs.Runs.{row}
use Rattle.columns.specs.Swaps.{joined, exchange}
use Rattle.sets.specs.Lent.{lent}
use Rattle.sets.specs.Workings.{stepped}
use Rattle.sets.proofs.factors.Factors.advance.Given as goal

-- rows before i are stepped, the others exchanged
abbrev pub invariant-loop-i : goal.invariant-loop-i
invariant-loop-i g l =
    let F = g.T.Arithmetic.field.ops in
    let value = g.T.Arithmetic.value in
    let s = lent F value l.self in
    let x = row F value l.fn.column in
    row F value l.column ≡ joined l.i (stepped F s l.r x) (λ i. x (exchange l.r (l.r + s.offset l.r) i))
