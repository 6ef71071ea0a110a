use Rattle.std.proofs.Common.{◌≡◌}
use Rattle.arithmetic.specs.Runs.{row}
use Rattle.columns.specs.Factors.{back}
use Rattle.columns.specs.Panels.{cells}
use Rattle.sets.proofs.Backs.{Backed}
use Rattle.sets.proofs.factors.Factors.combine.Given as goal

abbrev pub invariant-loop-n : goal.invariant-loop-n
invariant-loop-n g l =
    let F = g.T.Arithmetic.field.ops in
    let value = g.T.Arithmetic.value in
    let U = cells F value l.self.height l.self.columns.now in
    Backed F U l.n (row F value l.run) ≡ back F U l.self.rank (row F value l.initial.run)
