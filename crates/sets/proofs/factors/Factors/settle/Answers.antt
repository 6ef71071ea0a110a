use Rattle.std.proofs.Common.{◌-◌, sym, ap, ◌∙◌, subst, arith}
use Rattle.arithmetic.specs.Runs.{row}
use Rattle.arithmetic.proofs.Rows.{row_inside}
use Rattle.columns.specs.Swaps.{put}
use Rattle.columns.specs.Factors.{lower}
use Rattle.columns.proofs.Panels.{row_set}
use Rattle.sets.specs.Lent.{lent}
use Rattle.sets.proofs.Settlings.{Settling, settling_less, settling_all, dot_lower}
use Rattle.sets.proofs.factors.Factors.settle.Goals as goal

pub loop-k-preserved : goal.loop-k-preserved
loop-k-preserved g c =
    let F = g.T.Arithmetic.field.ops in
    let value = g.T.Arithmetic.value in
    let s = c.args.self.now in
    let xs = c.loop-k.run in
    let k = c.loop-k.k in
    let n = k - 1 in
    let y = row F value xs in
    let L = lower F (lent F value s) in
    let share = c.share_below.ensures ∙ dot_lower F g.met.T.Arithmetic.lawful value s.height s.rank s.columns.now s.pivots.now n y (omega arith) in
    let old = row_inside F value xs n c.index-run-k.result (omega arith) c.index-run-k.is in
    let new = row_set F value xs n c.difference.result (omega arith)
    ∙ ap (λ v. put n v y) (c.difference.ensures ∙ ap (λ v. F.sum v (F.negative (value c.share_below.result))) (sym old)) in
    subst (Settling F L s.height (row F value c.args.run.now) s.rank n) (sym new)
    (settling_less F L s.height (row F value c.args.run.now) s.rank k y (value c.share_below.result) c.loop-k-test.true share c.loop-k.invariant)

pub returns : goal.returns
returns g c =
    let F = g.T.Arithmetic.field.ops in
    let value = g.T.Arithmetic.value in
    let s = c.args.self.now in
    settling_all F (lower F (lent F value s)) s.height (row F value c.args.run.now) s.rank c.loop-k.k (row F value c.loop-k.run) (omega arith) c.loop-k.invariant
