use Rattle.std.proofs.Common.{length}
use Rattle.columns.specs.Panels.{Solves, cells}
use Rattle.columns.proofs.workings.solve_rows.Given as goal

abbrev pub invariant-loop-i : goal.invariant-loop-i
invariant-loop-i g l =
    let F = g.T.Arithmetic.field.ops in
    let value = g.T.Arithmetic.value in
    Solves F value (cells F value (length l.initial.column) l.factors) l.i l.initial.column l.column
