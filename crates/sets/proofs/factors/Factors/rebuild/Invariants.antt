use Rattle.std.proofs.Common.{◌≡◌}
use Rattle.arithmetic.specs.Runs.{row}
use Rattle.columns.specs.Linear.{multiply}
use Rattle.columns.specs.Swaps.{joined}
use Rattle.columns.specs.Factors.{lower, upper}
use Rattle.sets.specs.Lent.{lent}
use Rattle.sets.proofs.factors.Factors.rebuild.Given as goal

-- rows before i hold L U's
abbrev pub invariant-loop-i : goal.invariant-loop-i
invariant-loop-i g l =
    let F = g.T.Arithmetic.field.ops in
    let value = g.T.Arithmetic.value in
    let s = lent F value l.self in
    row F value l.run ≡ joined l.i (multiply F l.self.rank (lower F s) (upper F s) l.j) (row F value l.initial.run)
