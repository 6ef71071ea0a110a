use Rattle.std.proofs.Common.{◌≡◌, length}
use Rattle.arithmetic.specs.Runs.{row, total}
use Rattle.columns.specs.Panels.{cells}
use Rattle.columns.proofs.workings.share.Given as goal

abbrev pub invariant-loop-k : goal.invariant-loop-k
invariant-loop-k g l =
    let F = g.T.Arithmetic.field.ops in
    let value = g.T.Arithmetic.value in
    value l.sum ≡ total F l.k (λ k. F.product (cells F value (length l.column) l.factors k l.i) (row F value l.column k))
