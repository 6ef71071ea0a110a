-- The state that memory stands for.
use Rattle.std.proofs.Common.{◌≡◌, ℕ, ◌+◌, ◌*◌, ◌<◌, ◌≤◌, List, length, take, drop, set, sym, refl, ap, ◌∙◌, add-one, arith, get_or-set_other, get_or-set_same, length-take}
use mathlib.Core.Path.{fun_ext}
use native.Mathlib.Decide.{ℕ_discrete, dec_lt}
use Rattle.arithmetic.specs.Fields.{Field}
use Rattle.arithmetic.specs.Runs.{row}
use Rattle.columns.specs.Swaps.{put, joined, exchange}
use Rattle.columns.specs.Factors.{turned, divided}
use Rattle.columns.specs.Panels.{cells, offsets}
use Rattle.columns.proofs.Places.{put_at, put_off, joined_low, joined_high}
use Rattle.columns.proofs.Panels.{row_past}
use Rattle.sets.specs.States.{State, made, taken_at}
use Rattle.sets.specs.Memory.{packed, stored}
use Rattle.sets.specs.Workings.{divided_below}
use Rattle.sets.proofs.Parts.{by_parts, joined_alike}
use Rattle.sets.proofs.Runs.{joined_none, row_take}
use Rattle.sets.proofs.Slots.{slot_end, cells_front}

-- states with equal parts
same_state : {K : Type 0} {h h' r r' : ℕ} {e e' : ℕ → ℕ → K} {o o' : ℕ → ℕ} {t t' : ℕ → K} → h ≡ h' → r ≡ r' → e ≡ e' → o ≡ o' → t ≡ t'
    → ◌≡◌ {A = State K} (record { factors = record { height = h; rank = r; entry = e; offset = o }; target = t }) (record { factors = record { height = h'; rank = r'; entry = e'; offset = o' }; target = t' })
same_state a b c d e = λ i. record { factors = record { height = a i; rank = b i; entry = c i; offset = d i }; target = e i }

-- one place more, where a stands
joined_put : {A : Type 0} (r : ℕ) (a : A) (x y z : ℕ → A) → ((j : ℕ) → j < r → x j ≡ y j) → x r ≡ a → joined (r + 1) x z ≡ put r a (joined r y z)
joined_put r a x y z before here = fun_ext (λ j. go j (dec_lt j r) (ℕ_discrete j r))
  where
    go : (j : ℕ) → Dec (j < r) → Dec (j ≡ r) → joined (r + 1) x z j ≡ put r a (joined r y z) j
    go j (yes l) d = joined_low (r + 1) x z j (omega arith) ∙ before j l ∙ sym (put_off r a (joined r y z) j (omega arith) ∙ joined_low r y z j l)
    go j (no n) (yes e) = joined_low (r + 1) x z j (omega arith) ∙ ap x e ∙ here ∙ sym (ap (put r a (joined r y z)) e ∙ put_at r a (joined r y z))
    go j (no n) (no k) = joined_high (r + 1) x z j (omega arith) ∙ sym (put_off r a (joined r y z) j k ∙ joined_high r y z j (omega arith))

-- rows that move in every column before r
joined_moved : {A : Type 0} (r : ℕ) (move : ℕ → ℕ) (M Z : ℕ → ℕ → A) → joined {A = ℕ → A} r (λ j i. M j (move i)) (λ j i. Z j (move i)) ≡ (λ j i. joined r M Z j (move i))
joined_moved {A} r move M Z = fun_ext (λ j. go j (dec_lt j r))
  where
    moved : (ℕ → ℕ → A) → ℕ → ℕ → A
    moved N j i = N j (move i)

    go : (j : ℕ) → Dec (j < r) → joined r (moved M) (moved Z) j ≡ moved (joined r M Z) j
    go j (yes l) = joined_low r (moved M) (moved Z) j l ∙ ap {B = ℕ → A} (λ x i. x (move i)) (sym (joined_low r M Z j l))
    go j (no n) = joined_high r (moved M) (moved Z) j (omega arith) ∙ ap {B = ℕ → A} (λ x i. x (move i)) (sym (joined_high r M Z j (omega arith)))

module _ {K X : Type 0} (F : Field K) (value : X → K) where
  pub stored_none : (m : ℕ) (xs : List X) (ps : List ℕ) → stored F value m 0 xs ps ≡ made F m
  unfolding stored packed
  stored_none m xs ps = same_state refl refl (sym (joined_none (cells F value m xs) (λ j i. F.zero))) (sym (joined_none (offsets ps) (λ k. 0))) (sym (joined_none (cells F value m xs (m + 1)) (λ j. F.zero)))

  module _ (m r : ℕ) (xs : List X) (ps : List ℕ) where
    pub stored_height : (stored F value m r xs ps).factors.height ≡ m
    unfolding stored packed
    stored_height = refl

    pub stored_rank : (stored F value m r xs ps).factors.rank ≡ r
    unfolding stored packed
    stored_rank = refl

    pub stored_packed : (stored F value m r xs ps).factors ≡ packed F value m r xs ps
    unfolding stored packed
    stored_packed = refl

    pub stored_offset : (k : ℕ) → k < r → (stored F value m r xs ps).factors.offset k ≡ offsets ps k
    unfolding stored packed
    stored_offset k l = joined_low r (offsets ps) (λ k. 0) k l

  -- the targets of the columns held, as a part of the memory
  pub stored_targets : (m r : ℕ) (xs : List X) (ps : List ℕ) → r ≤ m → row F value (take r (drop ((m + 1) * m) xs)) ≡ (stored F value m r xs ps).target
  unfolding stored packed
  stored_targets m r xs ps le =
      let slot = drop ((m + 1) * m) xs in
      by_parts r (row F value (take r slot)) (stored F value m r xs ps).target
      (λ j l. row_take F value r slot j l ∙ sym (row_take F value m slot j (omega arith)) ∙ sym (joined_low r (cells F value m xs (m + 1)) (λ j. F.zero) j l))
      (λ j l. row_past F value (take r slot) j (omega (arith, length-take r slot)) ∙ sym (joined_high r (cells F value m xs (m + 1)) (λ j. F.zero) j l))

  -- only the held columns and their targets count
  pub stored_same : (m r : ℕ) (xs ys : List X) (ps : List ℕ) → ((j : ℕ) → j < r → cells F value m xs j ≡ cells F value m ys j) → cells F value m xs (m + 1) ≡ cells F value m ys (m + 1) → stored F value m r xs ps ≡ stored F value m r ys ps
  unfolding stored packed
  stored_same m r xs ys ps columns targets =
      same_state refl refl (joined_alike r (cells F value m xs) (cells F value m ys) (λ j i. F.zero) columns) refl (ap (λ t. joined r t (λ j. F.zero)) targets)

  -- and they stand in the first m + 2 slots
  pub slot_front : (m j : ℕ) (xs : List X) → j < m + 2 → cells F value m (take (m * (m + 2)) xs) j ≡ cells F value m xs j
  slot_front m j xs l = cells_front F value xs (m * (m + 2)) m j (slot_end m j (m * (m + 2)) l (omega arith))

  pub stored_front : (m r : ℕ) (xs : List X) (ps : List ℕ) → r ≤ m → stored F value m r (take (m * (m + 2)) xs) ps ≡ stored F value m r xs ps
  stored_front m r xs ps le = stored_same m r (take (m * (m + 2)) xs) xs ps (λ j l. slot_front m j xs (omega arith)) (slot_front m (m + 1) xs (omega arith))

  -- column r taken with pick q and target t
  pub stored_taken : (m r q : ℕ) (t : K) (xs zs : List X) (ps : List ℕ) → r < length ps
      → ((j : ℕ) → j < r → cells F value m zs j ≡ (λ i. cells F value m xs j (exchange r (r + q) i)))
      → cells F value m zs r ≡ divided_below F r (λ i. cells F value m xs r (exchange r (r + q) i))
      → cells F value m zs (m + 1) ≡ put r t (cells F value m xs (m + 1))
      → stored F value m (r + 1) zs (set ps r q) ≡ taken_at F (stored F value m r xs ps) (cells F value m xs r) t q
  unfolding stored packed divided turned divided_below
  stored_taken m r q t xs zs ps room before here targets =
      same_state refl (add-one r)
      (joined_put r (divided_below F r (λ i. M r (exchange r (r + q) i))) (cells F value m zs) (λ j i. M j (exchange r (r + q) i)) (λ j i. F.zero) before here
      ∙ ap (put r (divided_below F r (λ i. M r (exchange r (r + q) i)))) (joined_moved r (exchange r (r + q)) M (λ j i. F.zero)))
      (joined_put r q (offsets (set ps r q)) (offsets ps) (λ k. 0) (λ k l. get_or-set_other ps r k q 0 (omega arith)) (get_or-set_same ps r q 0 room))
      (joined_put r t (cells F value m zs (m + 1)) (M (m + 1)) (λ j. F.zero) (λ j l. ap (λ (x : ℕ → K). x j) targets ∙ put_off r t (M (m + 1)) j (omega arith)) (ap (λ (x : ℕ → K). x r) targets ∙ put_at r t (M (m + 1))))
    where
      M : ℕ → ℕ → K
      M = cells F value m xs
