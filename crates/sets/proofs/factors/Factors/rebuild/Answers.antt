use Rattle.std.proofs.Common.{◌≤◌, length, ap, ◌∙◌, arith}
use Rattle.arithmetic.specs.Runs.{row}
use Rattle.columns.specs.Linear.{multiply}
use Rattle.columns.specs.Factors.{restored, lower, upper, rebuilt}
use Rattle.columns.proofs.Panels.{row_past}
use Rattle.sets.specs.Lent.{lent}
use Rattle.sets.specs.Memory.{packed}
use Rattle.sets.proofs.Runs.{joined_none, row_written}
use Rattle.sets.proofs.Products.{product_all}
use Rattle.sets.proofs.factors.Factors.rebuild.Goals as goal

pub loop-i-init : goal.loop-i-init
loop-i-init g c = joined_none _ (row g.T.Arithmetic.field.ops g.T.Arithmetic.value c.args.run.now)

pub loop-i-preserved : goal.loop-i-preserved
loop-i-preserved g c =
    let F = g.T.Arithmetic.field.ops in
    let value = g.T.Arithmetic.value in
    let f = c.args.self.now in
    let s = lent F value f in
    row_written F value c.loop-i.run c.loop-i.i c.product_entry.result (multiply F f.rank (lower F s) (upper F s) c.args.j) (row F value c.args.run.now) (omega arith) c.product_entry.ensures c.loop-i.invariant

pub returns : goal.returns
unfolding rebuilt packed
returns g c =
    let F = g.T.Arithmetic.field.ops in
    let value = g.T.Arithmetic.value in
    let f = c.args.self.now in
    let start = c.args.run.now in
    let past : length start ≤ f.height = omega arith in
    let all = product_all F g.met.T.Arithmetic.lawful value f.height f.rank f.columns.now f.pivots.now f.fits c.args.j c.loop-i.i (row F value start) (omega arith) (λ i l. row_past F value start i (omega arith)) in
    c.restore.ensures ∙ ap (restored (lent F value f)) (c.loop-i.invariant ∙ all)
