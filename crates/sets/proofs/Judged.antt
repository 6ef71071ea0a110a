-- What working and taking a column in a set's slots make of its state.
use Rattle.std.proofs.Common.{◌≡◌, ℕ, ◌+◌, ◌*◌, ◌<◌, ◌≤◌, List, length, take, set, sym, ap, ◌∙◌, arith}
use Rattle.arithmetic.specs.Fields.{Field}
use Rattle.columns.specs.Swaps.{put, exchange}
use Rattle.columns.specs.Factors.{worked}
use Rattle.columns.specs.Panels.{cells}
use Rattle.columns.proofs.Places.{put_at, put_off}
use Rattle.sets.specs.States.{State, taken_at}
use Rattle.sets.specs.Memory.{packed, stored}
use Rattle.sets.specs.Workings.{divided_below}
use Rattle.sets.proofs.Stores.{stored_packed, stored_same, slot_front, stored_front, stored_taken}

-- the memory xs, whose slots were us, and zs, whose slots are ys
module _ {K X : Type 0} (F : Field K) (value : X → K) (m r : ℕ) (ps : List ℕ) (le : r ≤ m) (xs us ys zs : List X) (before : us ≡ take (m * (m + 2)) xs) (after : take (m * (m + 2)) zs ≡ ys) where
  in_slots : (j : ℕ) → j < m + 2 → cells F value m us j ≡ cells F value m xs j
  in_slots j l = ap (λ vs. cells F value m vs j) before ∙ slot_front F value m j xs l

  from_slots : (j : ℕ) → j < m + 2 → cells F value m zs j ≡ cells F value m ys j
  from_slots j l = sym (slot_front F value m j zs l) ∙ ap (λ vs. cells F value m vs j) after

  packed_slots : packed F value m r us ps ≡ (stored F value m r xs ps).factors
  packed_slots =
      ap (λ vs. packed F value m r vs ps) before ∙ sym (stored_packed F value m r (take (m * (m + 2)) xs) ps)
      ∙ ap (λ (s : State K). s.factors) (stored_front F value m r xs ps le)

  -- a column b put into slot r
  module _ (b : ℕ → K) (puts : cells F value m ys ≡ put r b (cells F value m us)) where
    others : (j : ℕ) → j < m + 2 → ¬ (j ≡ r) → cells F value m zs j ≡ cells F value m xs j
    others j l n = from_slots j l ∙ ap (λ (G : ℕ → ℕ → K). G j) puts ∙ put_off r b (cells F value m us) j n ∙ in_slots j l

    pub put_state : stored F value m r zs ps ≡ stored F value m r xs ps
    put_state = stored_same F value m r zs xs ps (λ j l. others j (omega arith) (omega arith)) (others (m + 1) (omega arith) (omega arith))

    pub put_next : cells F value m zs r ≡ b
    put_next = from_slots r (omega arith) ∙ ap (λ (G : ℕ → ℕ → K). G r) puts ∙ put_at r b (cells F value m us)

  pub worked_next : (b : ℕ → K) → cells F value m ys ≡ put r (worked F (packed F value m r us ps) b) (cells F value m us) → cells F value m zs r ≡ worked F (stored F value m r xs ps).factors b
  worked_next b works = put_next (worked F (packed F value m r us ps) b) works ∙ ap (λ s. worked F s b) packed_slots

  -- column r taken with pick q and target t
  pub taken_state : (q : ℕ) (t : K) → r < m → r < length ps → ((j : ℕ) → j < r → cells F value m ys j ≡ (λ i. cells F value m us j (exchange r (r + q) i)))
      → cells F value m ys r ≡ divided_below F r (λ i. cells F value m us r (exchange r (r + q) i)) → cells F value m ys (m + 1) ≡ put r t (cells F value m us (m + 1))
      → stored F value m (r + 1) zs (set ps r q) ≡ taken_at F (stored F value m r xs ps) (cells F value m xs r) t q
  taken_state q t l room held next target = stored_taken F value m r q t xs zs ps room
      (λ j o. from_slots j (omega arith) ∙ held j o ∙ moved j (in_slots j (omega arith)))
      (from_slots r (omega arith) ∙ next ∙ ap (divided_below F r) (moved r (in_slots r (omega arith))))
      (from_slots (m + 1) (omega arith) ∙ target ∙ ap (put r t) (in_slots (m + 1) (omega arith)))
    where
      moved : (j : ℕ) → cells F value m us j ≡ cells F value m xs j → ◌≡◌ {A = ℕ → K} (λ i. cells F value m us j (exchange r (r + q) i)) (λ i. cells F value m xs j (exchange r (r + q) i))
      moved j e = ap {B = ℕ → K} (λ x i. x (exchange r (r + q) i)) e
