use Rattle.std.proofs.Common.{◌≡◌}
use Rattle.arithmetic.specs.Runs.{row}
use Rattle.columns.specs.Swaps.{joined}
use Rattle.columns.specs.Panels.{cells}
use Rattle.sets.specs.Workings.{less_share}
use Rattle.sets.proofs.factors.Factors.back_row.Given as goal

-- rows before i are less their share
abbrev pub invariant-loop-i : goal.invariant-loop-i
invariant-loop-i g l =
    let F = g.T.Arithmetic.field.ops in
    let value = g.T.Arithmetic.value in
    let y = row F value l.initial.run in
    row F value l.run ≡ joined l.i (less_share F (cells F value l.self.height l.self.columns.now) l.n (value l.x) y) y
