use Rattle.std.proofs.Common.{◌≡◌}
use Rattle.arithmetic.specs.Runs.{row}
use Rattle.columns.proofs.Panels.{Upto}
use Rattle.sets.specs.Lent.{lent}
use Rattle.sets.specs.Workings.{stepped}
use Rattle.sets.proofs.factors.Factors.advance_panel.Given as goal

abbrev pub invariant-loop-j : goal.invariant-loop-j
invariant-loop-j g l =
    let F = g.T.Arithmetic.field.ops in
    let value = g.T.Arithmetic.value in
    Upto l.self.height (λ before after. row F value after ≡ stepped F (lent F value l.self) l.r (row F value before)) l.initial.panel l.panel l.j
