use Rattle.std.proofs.Common.{◌≡◌, ℕ, ◌+◌, ◌-◌, ◌*◌, ◌<◌, length, take, drop, refl, ap, ◌∙◌, arith}
use borrow.Rule.Slice.PartMut.{put_mid, same_len_mid}
use Rattle.arithmetic.specs.Runs.{row}
use Rattle.columns.specs.Swaps.{put, exchange}
use Rattle.columns.specs.Panels.{cells}
use Rattle.sets.specs.Workings.{divided_below}
use Rattle.columns.proofs.Places.{joined_low, joined_high}
use Rattle.sets.proofs.Slots.{slot_place, slot_end, cells_lent, cells_set}
use Rattle.sets.proofs.Dots.{part_length}
use Rattle.sets.proofs.Taken.{taken_held, taken_next, taken_target, taken_others}
use Rattle.sets.proofs.set.taking.take_column.Goals as goal

pub returns : goal.returns
returns g c =
    let F = g.T.Arithmetic.field.ops in
    let value = g.T.Arithmetic.value in
    let h = c.args.height in
    let r = c.args.rank in
    let q = c.args.q in
    let t = value c.args.target in
    let start = r * h in
    let exchanged = c.exchange_rows.new.memory in
    let column = c.divide.new.column in
    let spliced = put_mid start (start + h - start) exchanged column in
    let M = cells F value h c.args.slots.now in
    let A = cells F value h exchanged in
    let B = cells F value h spliced in
    let below : r < h = omega (arith, c.requires.place) in
    let size : start + h - start ≡ h = omega arith in
    let ends = slot_end h r (length exchanged) (omega arith) (omega (arith, c.exchange_rows.auto.memory, c.requires.stored)) in
    let long = part_length start (start + h) exchanged (omega arith) ends in
    let whole : length spliced ≡ length exchanged = same_len_mid start (start + h - start) exchanged column c.divide.auto.column in
    let divided : row F value column ≡ divided_below F r (A r) = c.divide.ensures ∙ ap (λ n. divided_below F r (row F value (take n (drop start exchanged)))) size in
    let divides : B ≡ put r (divided_below F r (A r)) A = cells_lent F value exchanged column h r (start + h) refl ends (c.divide.auto.column ∙ long ∙ size) ∙ ap (λ x. put r x A) divided in
    let place = slot_place h (h + 1) r (length spliced) (omega arith) below (omega (arith, c.exchange_rows.auto.memory, c.requires.stored)) in
    let stores = cells_set F value spliced h (h + 1) r c.args.target below place in
    let column : (j : ℕ) → A j ≡ _ = λ j. ap (λ (G : ℕ → ℕ → g.T.Arithmetic.field.Carrier). G j) c.exchange_rows.ensures in
    let low : (j : ℕ) → j < r + 1 → A j ≡ (λ i. M j (exchange r (r + q) i)) = λ j l. column j ∙ joined_low _ _ M j (omega (arith, l)) in
    record {
      held = taken_held F r q (h + 1) t M A B _ low divides (omega arith) stores;
      next = taken_next F r q (h + 1) t M A B _ low divides (omega arith) stores;
      targets = taken_target F r q (h + 1) t M A B _ low divides (omega arith) stores (column (h + 1) ∙ joined_high _ _ M (h + 1) (omega (arith, c.requires.place)));
      others = λ j l. taken_others F r q (h + 1) t M A B _ low divides (omega arith) stores j (column j ∙ joined_high _ _ M j (omega (arith, l))) l;
    }
