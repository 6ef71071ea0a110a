use Rattle.std.proofs.Common.{◌≡◌, length, ap, ◌∙◌, subst, arith}
use Rattle.arithmetic.specs.Runs.{row, total}
use Rattle.columns.specs.Panels.{cells}
use Rattle.columns.proofs.Panels.{cells_past}
use Rattle.columns.proofs.Steps.{Reducing, reducing_none, reducing_next, reducing_all}
use Rattle.columns.proofs.workings.reduce_rows.Goals as goal

pub loop-i-init : goal.loop-i-init
loop-i-init g c = reducing_none g.T.Arithmetic.field.ops g.met.T.Arithmetic.lawful g.T.Arithmetic.value _ c.args.c c.args.column.now

pub loop-i-preserved : goal.loop-i-preserved
loop-i-preserved g c =
    let F = g.T.Arithmetic.field.ops in
    let value = g.T.Arithmetic.value in
    let i = c.loop-i.i in
    let xs = c.loop-i.column in
    let same : length xs ≡ length c.args.column.now = omega arith in
    let less = c.difference.ensures ∙ ap (λ s. F.sum (value c.index-column-i.result) (F.negative s))
    (c.share.ensures ∙ ap (λ h. total F c.args.c (λ k. F.product (cells F value h c.args.factors.now k i) (row F value xs k))) same) in
    reducing_next F g.met.T.Arithmetic.lawful value _ c.args.c c.args.column.now xs i c.index-column-i.result c.difference.result (omega arith)
    (record { inside = omega arith; over = c.index-column-i.is; less = less }) c.loop-i.invariant

pub returns : goal.returns
returns g c =
    let F = g.T.Arithmetic.field.ops in
    let W = g.met.T.Arithmetic.lawful in
    let value = g.T.Arithmetic.value in
    let start = c.args.column.now in
    let L = cells F value (length start) c.args.factors.now in
    let all : c.loop-i.i ≡ length start = omega arith in
    reducing_all F W value L c.args.c (length start) start c.loop-i.column (omega arith) (cells_past F value c.args.factors.now (length start))
    (subst (Reducing F W value L c.args.c start c.loop-i.column) all c.loop-i.invariant)
