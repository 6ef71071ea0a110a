use Rattle.std.proofs.Common.{◌≡◌, length, ap, ◌∙◌, arith}
use Rattle.arithmetic.specs.Runs.{row, total}
use Rattle.columns.specs.Panels.{cells}
use Rattle.columns.proofs.Steps.{solves_none, solves_next}
use Rattle.columns.proofs.workings.solve_rows.Goals as goal

pub loop-i-init : goal.loop-i-init
loop-i-init g c = solves_none g.T.Arithmetic.field.ops g.met.T.Arithmetic.lawful g.T.Arithmetic.value _ c.args.column.now

pub loop-i-preserved : goal.loop-i-preserved
loop-i-preserved g c =
    let F = g.T.Arithmetic.field.ops in
    let value = g.T.Arithmetic.value in
    let i = c.loop-i.i in
    let xs = c.loop-i.column in
    let same : length xs ≡ length c.args.column.now = omega arith in
    let less = c.difference.ensures ∙ ap (λ s. F.sum (value c.index-column-i.result) (F.negative s))
    (c.share.ensures ∙ ap (λ h. total F i (λ k. F.product (cells F value h c.args.factors.now k i) (row F value xs k))) same) in
    solves_next F g.met.T.Arithmetic.lawful value _ c.args.column.now xs i c.index-column-i.result c.difference.result
    (record { inside = omega arith; over = c.index-column-i.is; less = less }) c.loop-i.invariant
