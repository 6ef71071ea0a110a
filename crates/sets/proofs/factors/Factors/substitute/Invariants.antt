use Rattle.std.proofs.Common.{◌≡◌}
use Rattle.arithmetic.specs.Runs.{row}
use Rattle.columns.specs.Factors.{front}
use Rattle.columns.specs.Panels.{cells}
use Rattle.sets.proofs.factors.Factors.substitute.Given as goal

-- rows before n are substituted
abbrev pub invariant-loop-n : goal.invariant-loop-n
invariant-loop-n g l =
    let F = g.T.Arithmetic.field.ops in
    let value = g.T.Arithmetic.value in
    row F value l.run ≡ front F (cells F value l.self.height l.self.columns.now) (row F value l.targets) l.n
