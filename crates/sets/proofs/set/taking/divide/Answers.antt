use Rattle.std.proofs.Common.{◌≡◌, ℕ, ◌+◌, ◌-◌, length, sym, ap, ◌∙◌, ap₂, arith, below_more}
use native.Mathlib.Decide.{dec_lt}
use Rattle.arithmetic.specs.Runs.{row}
use Rattle.arithmetic.proofs.Rows.{row_inside}
use Rattle.columns.proofs.Places.{put_at, put_off}
use Rattle.columns.proofs.Panels.{row_set, row_past}
use Rattle.columns.proofs.Rings.{zero_by_left}
use Rattle.sets.proofs.Runs.{row_part}
use Rattle.sets.proofs.Dots.{part_length}
use Rattle.sets.proofs.Written.{before_part, in_part}
use Rattle.sets.proofs.Taken.{divided_by_parts}
use Rattle.sets.proofs.set.taking.divide.Goals as goal

pub loop-x-preserved : goal.loop-x-preserved
loop-x-preserved g c =
    let F = g.T.Arithmetic.field.ops in
    let value = g.T.Arithmetic.value in
    let i = c.loop-x.x-index in
    let xs = c.loop-x.x-items in
    let new = row_set F value xs i c.product.result (omega arith) in
    let at = λ (k : ℕ). ap (λ (a : ℕ → g.T.Arithmetic.field.Carrier). a k) new in
    let old = ap value (sym c.x-item.is) ∙ sym (row_inside F value xs i c.x-item.result (omega arith) c.x-item.is) ∙ c.loop-x.invariant.1 i (omega arith) in (
      below_more _ _
          (λ k l. at k ∙ put_off i _ (row F value xs) k (omega arith) ∙ c.loop-x.invariant.0 k l)
          (at i ∙ put_at i _ (row F value xs) ∙ c.product.ensures ∙ ap (λ u. F.product u (value c.inverse-inverse.result)) old),
      λ k l. at k ∙ put_off i _ (row F value xs) k (omega arith) ∙ c.loop-x.invariant.1 k (omega arith),
    )

pub returns : goal.returns
returns g c =
    let F = g.T.Arithmetic.field.ops in
    let value = g.T.Arithmetic.value in
    let W = g.met.T.Arithmetic.lawful in
    let r = c.args.rank in
    let a = r + 1 in
    let xs = c.args.column.now in
    let ys = c.loop-x.x-items in
    let n = length xs - a in
    let x = row F value xs in
    let v = c.inverse-inverse.ensures ∙ ap F.inverse (sym (row_inside F value xs r c.index-column-rank.result (omega arith) c.index-column-rank.is)) in
    let long = part_length a (length xs) xs (omega arith) (omega arith) in
    let part : (k : ℕ) → row F value ys k ≡ F.product (x (a + k)) (F.inverse (x r)) = λ k. elim (dec_lt k n) [
      | yes l ↦ c.loop-x.invariant.0 k (omega arith) ∙ ap₂ F.product (row_part F value a n xs k l) v
      | no o ↦ row_past F value ys k (omega arith) ∙ sym (zero_by_left F W (F.inverse (x r)) (row_past F value xs (a + k) (omega arith)))
    ] in
    divided_by_parts F r x _
    (λ i l. before_part F value a xs ys (omega arith) c.loop-x.auto.x-items i l)
    (λ k. in_part F value a xs ys (omega arith) c.loop-x.auto.x-items k ∙ part k)
