-- Motions and assignments, by the transposed factors.
use Rattle.std.proofs.Common.{◌≡◌, ℕ, zero, suc, ◌+◌, ◌<◌, ◌≤◌, sym, refl, ap, ◌∙◌, ap₂, arith}
use native.Mathlib.Decide.{dec_lt}
use Rattle.arithmetic.specs.Fields.{Field, Lawful}
use Rattle.arithmetic.specs.Runs.{dot}
use Rattle.columns.specs.Linear.{combine, CombinationOf, Motion}
use Rattle.columns.specs.Swaps.{put}
use Rattle.columns.specs.Factors.{Packed, permuted, restored, UnitLower, Upper, lower, upper, Valid, eliminated, worked, rebuilt}
use Rattle.columns.specs.Factors.{settled, front, motion, assignment}
use Rattle.columns.proofs.Rings.{ring, zero_sum, zero_by_left, zero_by_right, divide_back}
use Rattle.columns.proofs.Places.{below_next, put_at, put_off}
use Rattle.columns.proofs.Sums.{total_cong, total_zeros, total_single}
use Rattle.columns.proofs.Combinations.{dot_combine, dot_parts, dot_put, rests_at_combination, unit, dot_unit, agrees_on_combination}
use Rattle.columns.proofs.Swaps.{unswapped_to, to_above, dot_unswapped}
use Rattle.columns.proofs.Eliminations.{left_and_gone, upper_less}
use Rattle.columns.proofs.Factors.{unit_lower, valid_upper, worked_rest, solved_gone, rebuilt_swapped, rest_zero_combines}

module _ {K : Type 0} (F : Field K) where
  infixl 65 ◌⊕◌
  infix 80 ⊖◌
  open F use {sum as ◌⊕◌, negative as ⊖◌}

  -- rows from k on stay
  settled_high : (L : ℕ → ℕ → K) (m : ℕ) (g : ℕ → K) (k : ℕ) (z : ℕ → K) (i : ℕ) → k ≤ i → settled F L m g k z i ≡ z i
  unfolding settled
  settled_high L m g zero z i l = refl
  settled_high L m g (suc k) z i l = settled_high L m g k (put k new z) i (omega arith) ∙ put_off k new z i (omega arith)
    where
      new : K
      new = g k ⊕ ⊖ dot F m z (L k)

module _ {K : Type 0} (F : Field K) (W : Lawful F) where
  infixl 65 ◌⊕◌
  infixl 70 ◌⊙◌
  infix 80 ⊖◌
  open F use {zero as 𝟘, one as 𝟙, sum as ◌⊕◌, negative as ⊖◌, product as ◌⊙◌, inverse}

  -- Rows settled against the columns of L.
  settled_meets : (L : ℕ → ℕ → K) (m r : ℕ) (g : ℕ → K) → r ≤ m → UnitLower F r L → (k : ℕ) (z : ℕ → K) → k ≤ r → ((i : ℕ) → i < k → z i ≡ 𝟘)
      → (j : ℕ) → j < k → dot F m (settled F L m g k z) (L j) ≡ g j
  unfolding settled
  settled_meets L m r g fits shape zero z q zeros = λ j l. absurd (omega arith)
  settled_meets L m r g fits shape (suc k) z q zeros =
      below_next (λ j. dot F m (settled F L m g k y) (L j) ≡ g j) k (settled_meets L m r g fits shape k y (omega arith) before) at
    where
      new : K
      new = g k ⊕ ⊖ dot F m z (L k)

      y : ℕ → K
      y = put k new z

      before : (i : ℕ) → i < k → y i ≡ 𝟘
      before i o = put_off k new z i (omega arith) ∙ zeros i (omega arith)

      -- rows before k do not count for column k, the others stay
      rows : (i : ℕ) → Dec (i < k) → settled F L m g k y i ⊙ L k i ≡ y i ⊙ L k i
      rows i (yes o) = let e = shape.above k i (omega arith) o in zero_by_right F W _ e ∙ sym (zero_by_right F W (y i) e)
      rows i (no o) = ap (λ t. t ⊙ L k i) (settled_high F L m g k y i (omega arith))

      meets : (a c : K) → a ⊕ (c ⊕ ⊖ a) ⊙ 𝟙 ≡ c
      meets a c = simp ring

      at : dot F m (settled F L m g k y) (L k) ≡ g k
      at =
          total_cong F m _ _ (λ i o. rows i (dec_lt i k))
          ∙ dot_put F W m k new z (L k) (omega arith) (zeros k (omega arith))
          ∙ ap (λ t. dot F m z (L k) ⊕ new ⊙ t) (shape.diagonal k (omega arith))
          ∙ meets (dot F m z (L k)) (g k)

  -- Front substitution against the columns of U.
  front_meets : (U : ℕ → ℕ → K) (t : ℕ → K) (n : ℕ) → Upper F n U → (j : ℕ) → j < n → dot F n (front F U t n) (U j) ≡ t j
  unfolding front
  front_meets U t zero up = λ j l. absurd (omega arith)
  front_meets U t (suc n) up = below_next (λ j. dot F (suc n) (put n a f) (U j) ≡ t j) n (λ j l. before j l (front_meets U t n (upper_less F n U up) j l)) at
    where
      f : ℕ → K
      f = front F U t n

      a : K
      a = (t n ⊕ ⊖ dot F n f (U n)) ⊙ inverse (U n n)

      split : (j : ℕ) → dot F (suc n) (put n a f) (U j) ≡ dot F n f (U j) ⊕ a ⊙ U j n
      split j = ap₂ ◌⊕◌ (total_cong F n _ _ (λ k o. ap (λ c. c ⊙ U j k) (put_off n a f k (omega arith)))) (ap (λ c. c ⊙ U j n) (put_at n a f))

      before : (j : ℕ) → j < n → dot F n f (U j) ≡ t j → dot F (suc n) (put n a f) (U j) ≡ t j
      before j l e = split j ∙ ap₂ ◌⊕◌ e (zero_by_right F W a (up.below j n (omega arith) l)) ∙ W.sum_zero (t j)

      meets : (x y : K) → x ⊕ (y ⊕ ⊖ x) ≡ y
      meets x y = simp ring

      at : dot F (suc n) (put n a f) (U n) ≡ t n
      at =
          split n
          ∙ ap (λ c. dot F n f (U n) ⊕ c) (divide_back F W (t n ⊕ ⊖ dot F n f (U n)) (U n n) (up.diagonal n (omega arith)))
          ∙ meets _ (t n)

  module _ (s : Packed K) (v : Valid F s) where
    -- P undone, against a rebuilt column: by L, then by U
    dot_rebuilt : (u : ℕ → K) (j : ℕ)
        → dot F s.height (restored s u) (rebuilt F s j) ≡ dot F s.rank (λ k. dot F s.height u (lower F s k)) (upper F s j)
    dot_rebuilt u j =
        dot_unswapped F W s.offset s.height s.rank u (rebuilt F s j) v.inside
        ∙ ap (λ (c : ℕ → K). dot F s.height u c) (rebuilt_swapped F s j)
        ∙ dot_combine F W s.height s.rank (lower F s) u (upper F s j)

    -- settled against L, in every row before the rank
    settled_lower : (g z : ℕ → K) → ((i : ℕ) → i < s.rank → z i ≡ 𝟘) → (k : ℕ) → k < s.rank
        → dot F s.height (settled F (lower F s) s.height g s.rank z) (lower F s k) ≡ g k
    settled_lower g z zeros = settled_meets (lower F s) s.height s.rank g v.fits (unit_lower F s) s.rank z (omega arith) zeros

    -- The entry rank + q of the worked column b is not zero.
    module _ (b : ℕ → K) (q : ℕ) (l : s.rank + q < s.height) (h : ¬ (worked F s b (s.rank + q) ≡ 𝟘)) where
      c : K
      c = inverse (worked F s b (s.rank + q))

      start : ℕ → K
      start = put (s.rank + q) c (λ k. 𝟘)

      u : ℕ → K
      u = settled F (lower F s) s.height (λ k. 𝟘) s.rank start

      rests_at_lower : (k : ℕ) → k < s.rank → dot F s.height u (lower F s k) ≡ 𝟘
      unfolding u start
      rests_at_lower = settled_lower (λ k. 𝟘) start (λ k o. put_off (s.rank + q) c (λ k. 𝟘) k (omega arith))

      start_high : (k : ℕ) → s.rank ≤ k → u k ≡ start k
      unfolding u
      start_high = settled_high F (lower F s) s.height (λ k. 𝟘) s.rank start

      other_rows : (k : ℕ) → ¬ (k ≡ s.rank + q) → Dec (k < s.rank) → u k ⊙ eliminated F s b s.rank k ≡ 𝟘
      unfolding start
      other_rows k e (yes o) = zero_by_right F W (u k) (solved_gone F W s b k o)
      other_rows k e (no o) = zero_by_left F W _ (start_high k (omega arith) ∙ put_off (s.rank + q) c (λ k. 𝟘) k e)

      -- on what is left of b, the one entry counts
      moves_left : dot F s.height u (eliminated F s b s.rank) ≡ 𝟙
      unfolding start c
      moves_left =
          total_single F W s.height (s.rank + q) _ l (λ k o e. other_rows k e (dec_lt k s.rank))
          ∙ ap₂ ◌⊙◌ (start_high (s.rank + q) (omega arith) ∙ put_at (s.rank + q) c (λ k. 𝟘)) (sym (worked_rest F s b (s.rank + q) (omega arith)))
          ∙ W.product_comm _ _ ∙ W.product_inverse (worked F s b (s.rank + q)) h

      moves_swapped : dot F s.height u (permuted s b) ≡ 𝟙
      moves_swapped = dot_parts F W s.height u _ gone _ parts ∙ ap₂ ◌⊕◌ rests_at_gone moves_left ∙ zero_sum F W 𝟙
        where
          gone : ℕ → K
          gone = combine F s.rank (lower F s) (λ j. eliminated F s b j j)

          parts : (k : ℕ) → permuted s b k ≡ gone k ⊕ eliminated F s b s.rank k
          parts = left_and_gone F W (lower F s) (permuted s b) s.rank

          rests_at_gone : dot F s.height u gone ≡ 𝟘
          rests_at_gone = rests_at_combination F W s.height s.rank (lower F s) gone u rests_at_lower (_, λ i l. refl)

      pub motion_moves : Motion F s.height s.rank (rebuilt F s) b (motion F s (worked F s b) q)
      unfolding motion u start c
      motion_moves = record {
        rests = λ j o. dot_rebuilt u j ∙ total_zeros F W s.rank _ (λ k p. zero_by_left F W _ (rests_at_lower k p));
        moves = dot_unswapped F W s.offset s.height s.rank u b v.inside ∙ moves_swapped;
      }

    -- The assignment of targets t.

    pub assignment_meets : (t : ℕ → K) (j : ℕ) → j < s.rank → dot F s.height (assignment F s t) (rebuilt F s j) ≡ t j
    unfolding assignment
    assignment_meets t j l =
        dot_rebuilt (settled F (lower F s) s.height g s.rank (λ k. 𝟘)) j
        ∙ total_cong F s.rank _ _ (λ k o. ap (λ t. t ⊙ upper F s j k) (settled_lower g (λ k. 𝟘) (λ i p. refl) k o))
        ∙ front_meets (upper F s) t s.rank (valid_upper F s v) j l
      where
        g : ℕ → K
        g = front F (upper F s) t s.rank

    pub assignment_ends : (t : ℕ → K) (i : ℕ) → s.height ≤ i → assignment F s t i ≡ 𝟘
    unfolding assignment
    assignment_ends t i l =
        unswapped_to s.offset s.rank x i
        ∙ ap x (to_above s.offset s.height s.rank i v.inside l)
        ∙ settled_high F (lower F s) s.height _ s.rank (λ k. 𝟘) i (let f = v.fits in omega arith)
      where
        x : ℕ → K
        x = settled F (lower F s) s.height (front F (upper F s) t s.rank) s.rank (λ k. 𝟘)

    -- where the columns are as many as the rows, what agrees on them agrees everywhere
    pub assignment_unique : s.rank ≡ s.height → (x y : ℕ → K)
        → ((j : ℕ) → j < s.rank → dot F s.height x (rebuilt F s j) ≡ dot F s.height y (rebuilt F s j)) → (i : ℕ) → i < s.height → x i ≡ y i
    assignment_unique full x y agree i l =
        sym (dot_unit F W s.height i x l)
        ∙ agrees_on_combination F W s.height s.rank (rebuilt F s) (unit F i) x y agree combination
        ∙ dot_unit F W s.height i y l
      where
        combination : CombinationOf F s.height s.rank (rebuilt F s) (unit F i)
        combination = (_, rest_zero_combines F W s v (unit F i) (λ k o p. absurd (omega arith)))
