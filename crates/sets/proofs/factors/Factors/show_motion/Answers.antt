use Rattle.std.proofs.Common.{ℕ, ◌+◌, sym, ap, ◌∙◌, ap₂, arith}
use Rattle.arithmetic.specs.Runs.{row}
use Rattle.arithmetic.proofs.Rows.{row_inside}
use Rattle.columns.specs.Swaps.{put, joined}
use Rattle.columns.specs.Factors.{restored, lower, settled, motion}
use Rattle.columns.proofs.Panels.{row_set}
use Rattle.sets.specs.Lent.{lent}
use Rattle.sets.specs.Memory.{packed}
use Rattle.sets.proofs.Runs.{joined_none}
use Rattle.sets.proofs.Settlings.{settled_one_entry}
use Rattle.sets.proofs.factors.Factors.show_motion.Goals as goal

pub returns : goal.returns
unfolding motion packed
returns g c =
    let F = g.T.Arithmetic.field.ops in
    let value = g.T.Arithmetic.value in
    let f = c.args.self.now in
    let s = lent F value f in
    let r = f.rank in
    let p = r + c.args.q in
    let start = c.args.run.now in
    let cleared = c.clear.new.run in
    let a = F.inverse (row F value start p) in
    let entry = c.inverse-inverse.ensures ∙ ap F.inverse (sym (row_inside F value start p c.index-run-self.result (omega arith) c.index-run-self.is)) in
    let holds = row_set F value cleared p c.inverse-inverse.result (omega arith) ∙ ap₂ (put p) entry (c.clear.ensures ∙ sym (joined_none (row F value start) (λ i. F.zero))) in
    let settles = c.settle.ensures
    ∙ ap (λ (b : ℕ → g.T.Arithmetic.field.Carrier). settled F (lower F s) f.height b r (joined r (λ i. F.zero) b)) holds
    ∙ settled_one_entry F (lower F s) f.height r p a (omega arith) in
    c.restore.ensures ∙ ap (restored s) settles
