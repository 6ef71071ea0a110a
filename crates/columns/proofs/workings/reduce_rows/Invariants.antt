use Rattle.std.proofs.Common.{length}
use Rattle.columns.specs.Panels.{cells}
use Rattle.columns.proofs.Steps.{Reducing}
use Rattle.columns.proofs.workings.reduce_rows.Given as goal

abbrev pub invariant-loop-i : goal.invariant-loop-i
invariant-loop-i g l =
    let F = g.T.Arithmetic.field.ops in
    let value = g.T.Arithmetic.value in
    Reducing F g.met.T.Arithmetic.lawful value (cells F value (length l.initial.column) l.factors) l.c l.initial.column l.column l.i
