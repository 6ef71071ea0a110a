use Rattle.columns.specs.Panels.{Leaves}
use Rattle.columns.proofs.Panels.{Upto}
use Rattle.columns.proofs.workings.each_column.Given as goal

abbrev pub invariant-loop-j : goal.invariant-loop-j
invariant-loop-j g l = Upto l.height (Leaves (goal.F-post g l.work)) l.initial.panel l.panel l.j
