use Rattle.std.proofs.Common.{◌≡◌, ℕ, ◌+◌, ◌-◌, sym, ap, ◌∙◌, arith, below_more}
use native.Mathlib.Decide.{dec_lt}
use Rattle.arithmetic.specs.Runs.{row}
use Rattle.columns.proofs.Places.{put_at, put_off, joined_low, joined_high}
use Rattle.columns.proofs.Panels.{row_set, row_past}
use Rattle.sets.proofs.Parts.{by_parts}
use Rattle.sets.proofs.Written.{before_part, in_part}
use Rattle.sets.proofs.factors.working.clear.Goals as goal

pub loop-x-preserved : goal.loop-x-preserved
loop-x-preserved g c =
    let F = g.T.Arithmetic.field.ops in
    let value = g.T.Arithmetic.value in
    let i = c.loop-x.x-index in
    let xs = c.loop-x.x-items in
    let new = row_set F value xs i c.zero.result (omega arith) in
    let at = λ (k : ℕ). ap (λ (a : ℕ → g.T.Arithmetic.field.Carrier). a k) new in
    below_more _ _
    (λ k l. at k ∙ put_off i _ (row F value xs) k (omega arith) ∙ c.loop-x.invariant k l)
    (at i ∙ put_at i _ (row F value xs) ∙ c.zero.ensures)

pub returns : goal.returns
returns g c =
    let F = g.T.Arithmetic.field.ops in
    let value = g.T.Arithmetic.value in
    let a = c.args.from in
    let xs = c.args.run.now in
    let ys = c.loop-x.x-items in
    let zeros : (k : ℕ) → row F value ys k ≡ F.zero = λ k. elim (dec_lt k c.loop-x.x-index) [ yes l ↦ c.loop-x.invariant k l | no n ↦ row_past F value ys k (omega arith) ] in
    by_parts a _ _
    (λ k l. before_part F value a xs ys c.requires c.loop-x.auto.x-items k l ∙ sym (joined_low a (row F value xs) _ k l))
    (λ k l.
    let e : a + (k - a) ≡ k = omega arith in
    ap (row F value _) (sym e) ∙ in_part F value a xs ys c.requires c.loop-x.auto.x-items (k - a) ∙ zeros (k - a) ∙ sym (joined_high a (row F value xs) _ k l))
