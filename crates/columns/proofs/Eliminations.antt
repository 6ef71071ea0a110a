-- Elimination by a unit lower L, back substitution by an upper U, and what both tell about the columns of L U.
use Rattle.std.proofs.Common.{◌≡◌, ℕ, zero, suc, ◌+◌, ◌-◌, ◌<◌, ◌≤◌, sym, refl, ap, ◌∙◌, subst, ap₂, add-zero, add-suc, arith}
use native.Mathlib.Decide.{dec_lt}
use Rattle.arithmetic.specs.Fields.{Field, Lawful}
use Rattle.arithmetic.specs.Runs.{total}
use Rattle.columns.specs.Linear.{combine, multiply, CombinationOf, Independent}
use Rattle.columns.specs.Swaps.{put}
use Rattle.columns.specs.Factors.{left, UnitLower, Upper, back}
use Rattle.columns.proofs.Rings.{ring, zero_sum, one_product, zero_by_left, zero_by_right, divide_back, nonzero_factor}
use Rattle.columns.proofs.Places.{below_next, put_off}
use Rattle.columns.proofs.Sums.{total_cong, total_zeros, total_single}
use Rattle.columns.proofs.Combinations.{combine_multiply, combine_put}

module _ {K : Type 0} (F : Field K) where
  infixl 65 ◌⊕◌
  infixl 70 ◌⊙◌
  infix 80 ⊖◌
  open F use {zero as 𝟘, sum as ◌⊕◌, negative as ⊖◌, product as ◌⊙◌, inverse}

  module _ (L : ℕ → ℕ → K) where
    left_start : (b : ℕ → K) (i : ℕ) → left F L b zero i ≡ b i
    unfolding left
    left_start b i = refl

    left_next : (b : ℕ → K) (k i : ℕ) → left F L b (suc k) i ≡ left F L b k i ⊕ ⊖ (L k i ⊙ left F L b k k)
    unfolding left
    left_next b k i = refl

    -- it reads the rows below m only
    left_cong : (b c : ℕ → K) (m k i : ℕ) → ((l : ℕ) → l < m → b l ≡ c l) → k ≤ m → i < m → left F L b k i ≡ left F L c k i
    unfolding left
    left_cong b c m zero i h q l = h i l
    left_cong b c m (suc k) i h q l =
        ap₂ (λ s t. s ⊕ ⊖ (L k i ⊙ t)) (left_cong b c m k i h (omega arith) l) (left_cong b c m k k h (omega arith) (omega arith))

  pub upper_less : (r : ℕ) (U : ℕ → ℕ → K) → Upper F (suc r) U → Upper F r U
  upper_less r U up = record { diagonal = λ j q. up.diagonal j (omega arith); below = λ j i q. up.below j i (omega arith) }

  pub back_zeros : (U : ℕ → ℕ → K) (r : ℕ) (y : ℕ → K) (j : ℕ) → r ≤ j → back F U r y j ≡ 𝟘
  unfolding back
  back_zeros U zero y j l = refl
  back_zeros U (suc r) y j l =
      put_off r _ (back F U r (λ i. y i ⊕ ⊖ (U r i ⊙ (inverse (U r r) ⊙ y r)))) j (omega arith) ∙ back_zeros U r _ j (omega arith)

  pub back_cong : (U : ℕ → ℕ → K) (r : ℕ) (y z : ℕ → K) → ((j : ℕ) → j < r → y j ≡ z j) → back F U r y ≡ back F U r z
  unfolding back
  back_cong U zero y z e = refl
  back_cong U (suc r) y z e = ap₂ (λ a (x : ℕ → K). put r (inverse (U r r) ⊙ a) x) last (back_cong U r _ _ (λ j l. before j (e j (omega arith))))
    where
      last : y r ≡ z r
      last = e r (omega arith)

      before : (j : ℕ) → y j ≡ z j → y j ⊕ ⊖ (U r j ⊙ (inverse (U r r) ⊙ y r)) ≡ z j ⊕ ⊖ (U r j ⊙ (inverse (U r r) ⊙ z r))
      before j d = ap₂ (λ a c. a ⊕ ⊖ (U r j ⊙ (inverse (U r r) ⊙ c))) d last

module _ {K : Type 0} (F : Field K) (W : Lawful F) where
  infixl 65 ◌⊕◌
  infixl 70 ◌⊙◌
  infix 80 ⊖◌
  open F use {zero as 𝟘, sum as ◌⊕◌, negative as ⊖◌, product as ◌⊙◌, inverse}

  -- What is left of a column.

  module _ (L : ℕ → ℕ → K) where
    pub left_is_less_the_sum : (b : ℕ → K) (k i : ℕ) → left F L b k i ≡ b i ⊕ ⊖ total F k (λ j. L j i ⊙ left F L b j j)
    unfolding left
    left_is_less_the_sum b zero i = simp ring
    left_is_less_the_sum b (suc k) i = ap (λ t. t ⊕ ⊖ (L k i ⊙ left F L b k k)) (left_is_less_the_sum b k i) ∙ simp ring

    -- the column is what was eliminated and what is left
    pub left_and_gone : (b : ℕ → K) (k i : ℕ) → b i ≡ combine F k L (λ j. left F L b j j) i ⊕ left F L b k i
    left_and_gone b k i = rw (left_is_less_the_sum b k i) (simp ring)

    left_sum : (b c : ℕ → K) (k i : ℕ) → left F L (λ l. b l ⊕ c l) k i ≡ left F L b k i ⊕ left F L c k i
    left_sum b c zero i = rw (left_start F L (λ l. b l ⊕ c l) i, left_start F L b i, left_start F L c i)
    left_sum b c (suc k) i =
        rw (left_next F L (λ l. b l ⊕ c l) k i, left_next F L b k i, left_next F L c k i, left_sum b c k i, left_sum b c k k) (simp ring)

    left_scale : (a : K) (b : ℕ → K) (k i : ℕ) → left F L (λ l. b l ⊙ a) k i ≡ left F L b k i ⊙ a
    left_scale a b zero i = rw (left_start F L (λ l. b l ⊙ a) i, left_start F L b i)
    left_scale a b (suc k) i = rw (left_next F L (λ l. b l ⊙ a) k i, left_next F L b k i, left_scale a b k i, left_scale a b k k) (simp ring)

    left_zero : (k i : ℕ) → left F L (λ l. 𝟘) k i ≡ 𝟘
    left_zero zero i = left_start F L (λ l. 𝟘) i
    left_zero (suc k) i = rw (left_next F L (λ l. 𝟘) k i, left_zero k i, left_zero k k) (simp ring)

    left_combine : (n : ℕ) (A : ℕ → ℕ → K) (x : ℕ → K) (k i : ℕ) → left F L (combine F n A x) k i ≡ total F n (λ j. left F L (A j) k i ⊙ x j)
    left_combine zero A x k i = left_zero k i
    left_combine (suc n) A x k i =
        left_sum (combine F n A x) (λ l. A n l ⊙ x n) k i ∙ ap₂ ◌⊕◌ (left_combine n A x k i) (left_scale (x n) (A n) k i)

    module _ (r : ℕ) (unit : UnitLower F r L) where
      -- a column of L stands until its turn
      own_before : (j k i : ℕ) → j < r → k ≤ j → left F L (L j) k i ≡ L j i
      own_before j zero i l q = left_start F L (L j) i
      own_before j (suc k) i l q =
          rw (left_next F L (L j) k i, own_before j k i l (omega arith), own_before j k k l (omega arith), unit.above j k l (omega arith)) (simp ring)

      -- and then it is gone
      own_after : (j d i : ℕ) → j < r → left F L (L j) (suc (j + d)) i ≡ 𝟘
      own_after j zero i l =
          rw (add-zero, left_next F L (L j) j i, own_before j j i l (omega arith), own_before j j j l (omega arith), unit.diagonal j l) (simp ring)
      own_after j (suc d) i l =
          rw (add-suc, left_next F L (L j) (suc (j + d)) i, own_after j d i l, own_after j d (suc (j + d)) l) (simp ring)

      own_gone : (j i : ℕ) → j < r → left F L (L j) r i ≡ 𝟘
      own_gone j i l = subst (λ k. left F L (L j) k i ≡ 𝟘) (omega arith) (own_after j (r - suc j) i l)

      -- combinations of L's columns leave nothing
      pub combination_gone : (z : ℕ → K) (i : ℕ) → left F L (combine F r L z) r i ≡ 𝟘
      combination_gone z i =
          left_combine r L z r i ∙ total_zeros F W r _ (λ j l. zero_by_left F W (z j) (own_gone j i l))

      row_after : (b : ℕ → K) (i d : ℕ) → suc (i + d) ≤ r → left F L b (suc (i + d)) i ≡ 𝟘
      row_after b i zero l = rw (add-zero, left_next F L b i i, unit.diagonal i (omega arith)) (simp ring)
      row_after b i (suc d) l =
          rw (add-suc, left_next F L b (suc (i + d)) i, row_after b i d (omega arith), unit.above (suc (i + d)) i (omega arith) (omega arith)) (simp ring)

      -- of any column, the first r rows are gone
      pub first_rows_gone : (b : ℕ → K) (i : ℕ) → i < r → left F L b r i ≡ 𝟘
      first_rows_gone b i l = subst (λ k. left F L b k i ≡ 𝟘) (omega arith) (row_after b i (r - suc i) (omega arith))

  -- Back substitution.

  -- the last row meets the last column only
  last_row : (r : ℕ) (U : ℕ → ℕ → K) (x : ℕ → K) → Upper F (suc r) U → combine F r U x r ≡ 𝟘
  last_row r U x up = total_zeros F W r _ (λ j q. zero_by_left F W (x j) (up.below j r (omega arith) q))

  back_solves : (U : ℕ → ℕ → K) (r : ℕ) → Upper F r U → (y : ℕ → K) (i : ℕ) → i < r → combine F r U (back F U r y) i ≡ y i
  unfolding back
  back_solves U zero up y i l = absurd (omega arith)
  back_solves U (suc r) up y i l =
      combine_put F r U before a i
      ∙ below_next (λ i. combine F r U before i ⊕ U r i ⊙ a ≡ y i) r (λ i l. row i (back_solves U r (upper_less F r U up) rest i l)) last i l
    where
      a : K
      a = inverse (U r r) ⊙ y r

      rest : ℕ → K
      rest i = y i ⊕ ⊖ (U r i ⊙ a)

      before : ℕ → K
      before = back F U r rest

      row : (i : ℕ) → combine F r U before i ≡ rest i → combine F r U before i ⊕ U r i ⊙ a ≡ y i
      row i e = ap (λ t. t ⊕ U r i ⊙ a) e ∙ simp ring

      divided : U r r ⊙ a ≡ y r
      divided = W.product_comm (U r r) a ∙ ap (λ t. t ⊙ U r r) (W.product_comm _ _) ∙ divide_back F W (y r) (U r r) (up.diagonal r (omega arith))

      last : combine F r U before r ⊕ U r r ⊙ a ≡ y r
      last = ap₂ ◌⊕◌ (last_row r U before up) divided ∙ zero_sum F W (y r)

  -- Independence.

  lower_independent : (m r : ℕ) (L : ℕ → ℕ → K) → r ≤ m → UnitLower F r L → Independent F m r L
  lower_independent m r L fits unit x zeros = below r (omega arith)
    where
      -- in row n, the columns before n count no more, and those after it not yet
      others : (n : ℕ) → ((i : ℕ) → i < n → x i ≡ 𝟘) → (i : ℕ) → i < r → ¬ (i ≡ n) → Dec (i < n) → L i n ⊙ x i ≡ 𝟘
      others n before i q e (yes o) = zero_by_right F W (L i n) (before i o)
      others n before i q e (no o) = zero_by_left F W (x i) (unit.above i n q (omega arith))

      at : (n : ℕ) → n < r → ((i : ℕ) → i < n → x i ≡ 𝟘) → x n ≡ 𝟘
      at n l before =
          sym (one_product F W (x n)) ∙ ap (λ t. t ⊙ x n) (sym (unit.diagonal n l))
          ∙ sym (total_single F W r n (λ i. L i n ⊙ x i) l (λ i q e. others n before i q e (dec_lt i n)))
          ∙ zeros n (omega arith)

      below : (n : ℕ) → n ≤ r → (j : ℕ) → j < n → x j ≡ 𝟘
      below zero k = λ j l. absurd (omega arith)
      below (suc n) k = let before = below n (omega arith) in below_next (λ j. x j ≡ 𝟘) n before (at n (omega arith) before)

  upper_independent : (r : ℕ) (U : ℕ → ℕ → K) → Upper F r U → Independent F r r U
  upper_independent zero U up x zeros = λ j l. absurd (omega arith)
  upper_independent (suc r) U up x zeros =
      below_next (λ j. x j ≡ 𝟘) r (upper_independent r U (upper_less F r U up) x (λ i q. sym (without i) ∙ zeros i (omega arith))) last
    where
      last : x r ≡ 𝟘
      last = nonzero_factor F W (U r r) (x r) (up.diagonal r (omega arith))
          (sym (zero_sum F W (U r r ⊙ x r)) ∙ ap (λ t. t ⊕ U r r ⊙ x r) (sym (last_row r U x up)) ∙ zeros r (omega arith))

      without : (i : ℕ) → combine F (suc r) U x i ≡ combine F r U x i
      without i = ap (λ t. combine F r U x i ⊕ t) (zero_by_right F W (U r i) last) ∙ W.sum_zero (combine F r U x i)

  -- The columns of L U.
  module _ (m r : ℕ) (L U : ℕ → ℕ → K) (fits : r ≤ m) (unit : UnitLower F r L) where
    pub multiply_independent : Upper F r U → Independent F m r (multiply F r L U)
    multiply_independent up x zeros = upper_independent r U up x
        (lower_independent m r L fits unit (combine F r U x) (λ i l. sym (combine_multiply F W r r L U x i) ∙ zeros i l))

    -- nothing left: back substitution gives the combination
    pub none_left_combines : Upper F r U → (b : ℕ → K) → ((i : ℕ) → i < m → left F L b r i ≡ 𝟘) → (i : ℕ) → i < m
        → combine F r (multiply F r L U) (back F U r (λ j. left F L b j j)) i ≡ b i
    none_left_combines up b zeros i l =
        let y : ℕ → K = λ j. left F L b j j in
        combine_multiply F W r r L U (back F U r y) i
        ∙ total_cong F r _ _ (λ j q. ap (λ t. L j i ⊙ t) (back_solves U r up y j q))
        ∙ sym (W.sum_zero (combine F r L y i)) ∙ ap (λ t. combine F r L y i ⊕ t) (sym (zeros i l)) ∙ sym (left_and_gone L b r i)

    -- a combination leaves nothing
    pub combination_leaves_none : (b : ℕ → K) → CombinationOf F m r (multiply F r L U) b → (i : ℕ) → i < m → left F L b r i ≡ 𝟘
    combination_leaves_none b (x, e) i l =
        left_cong F L b (combine F r L (combine F r U x)) m r i (λ k q. sym (e k q) ∙ combine_multiply F W r r L U x k) fits l
        ∙ combination_gone L r unit (combine F r U x) i
