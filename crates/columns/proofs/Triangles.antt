-- The determinant of products with triangular matrices, of exchanged rows, and by packed factors.
use Rattle.std.proofs.Common.{◌≡◌, ℕ, zero, suc, ◌+◌, ◌<◌, ◌≤◌, ◌⊎◌, List, [], ◌∷◌, ◌++◌, length, sym, refl, ap, ◌∙◌, ap₂, inl, inr, arith, length-append}
use mathlib.Core.Path.{fun_ext}
use native.Mathlib.Decide.{ℕ_discrete, dec_lt}
use Rattle.arithmetic.specs.Fields.{Field, Lawful}
use Rattle.columns.specs.Linear.{combine, multiply}
use Rattle.columns.specs.Swaps.{choose, put, exchange, joined}
use Rattle.columns.specs.Factors.{Packed, UnitLower, lower, upper, Valid, rebuilt}
use Rattle.columns.specs.Determinants.{minor, turns, sign, determinant, diagonal_product, factored_determinant}
use Rattle.columns.proofs.Rings.{ring, one_product, zero_by_left, zero_by_right}
use Rattle.columns.proofs.Places.{put_at, put_off, joined_low, joined_high, joined_here, joined_next}
use Rattle.columns.proofs.Sums.{total_single}
use Rattle.columns.proofs.Combinations.{unit, unit_on, unit_off, combine_unit}
use Rattle.columns.proofs.Swaps.{Inside, inside_less, exchange_none, from, to, from_to, to_from, to_below}
use Rattle.columns.proofs.Factors.{unit_lower, upper_in, upper_out, rebuilt_to}
use Rattle.columns.proofs.Determinants.{determinant_cong, put_combine, alternates, determinant_exchange}

module _ {K : Type 0} (F : Field K) (W : Lawful F) where
  infixl 70 ◌⊙◌
  infix 80 ⊖◌
  open F use {zero as 𝟘, one as 𝟙, negative as ⊖◌, product as ◌⊙◌}

  -- Products with triangular matrices.

  -- of a combination at place k, only the column k itself counts, if every other one stands elsewhere already
  put_own : (n k : ℕ) (M H : ℕ → ℕ → K) (x : ℕ → K) → k < n → ((j : ℕ) → j < n → ¬ (j ≡ k) → (x j ≡ 𝟘) ⊎ (H j ≡ M j))
      → determinant F n (put k (combine F n M x) H) ≡ x k ⊙ determinant F n (put k (M k) H)
  put_own n k M H x l h =
      put_combine F W n k n M H x l
      ∙ total_single F W n k (λ j. x j ⊙ determinant F n (put k (M j) H)) l (λ j q e. go j q e (h j q e))
    where
      go : (j : ℕ) → j < n → ¬ (j ≡ k) → (x j ≡ 𝟘) ⊎ (H j ≡ M j) → x j ⊙ determinant F n (put k (M j) H) ≡ 𝟘
      go j q e (inl z) = zero_by_left F W _ z
      go j q e (inr z) =
          zero_by_right F W (x j) (alternates F W n j k q l e (put k (M j) H) (put_off k (M j) H j e ∙ z ∙ sym (put_at k (M j) H)))

  module _ (n : ℕ) (M T : ℕ → ℕ → K) where
    MT : ℕ → ℕ → K
    MT j = multiply F n M T j

    -- T zero below its diagonal: the columns of M T become M's from the first on
    upper_steps : ((j i : ℕ) → j < n → j < i → T j i ≡ 𝟘) → (k : ℕ) → k ≤ n
        → determinant F n MT ≡ diagonal_product F k T ⊙ determinant F n (joined k M MT)
    unfolding MT
    upper_steps below zero l =
        ap (determinant F n) (sym (fun_ext (λ j. joined_high 0 M MT j (omega arith)))) ∙ sym (one_product F W (determinant F n (joined 0 M MT)))
    upper_steps below (suc k) l =
        upper_steps below k (omega arith)
        ∙ ap (λ t. diagonal_product F k T ⊙ t) step
        ∙ sym (W.product_assoc _ _ _)
      where
        side : (j : ℕ) → ¬ (j ≡ k) → Dec (j < k) → (T k j ≡ 𝟘) ⊎ (joined k M MT j ≡ M j)
        side j e (yes q) = inr (joined_low k M MT j q)
        side j e (no q) = inl (below k j (omega arith) (omega arith))

        step : determinant F n (joined k M MT) ≡ T k k ⊙ determinant F n (joined (suc k) M MT)
        step =
            ap (determinant F n) (sym (joined_here k M MT))
            ∙ put_own n k M (joined k M MT) (T k) (omega arith) (λ j q e. side j e (dec_lt j k))
            ∙ ap (λ c. T k k ⊙ determinant F n c) (joined_next k M MT)

    determinant_upper : ((j i : ℕ) → j < n → j < i → T j i ≡ 𝟘) → determinant F n (multiply F n M T) ≡ diagonal_product F n T ⊙ determinant F n M
    unfolding MT
    determinant_upper below = upper_steps below n (omega arith) ∙ ap (λ t. diagonal_product F n T ⊙ t) all
      where
        all : determinant F n (joined n M MT) ≡ determinant F n M
        all = determinant_cong F n (joined n M MT) M (λ j i l q. ap (λ (c : ℕ → K). c i) (joined_low n M MT j l))

    -- T unit lower: M's columns become those of M T from the first on
    lower_steps : UnitLower F n T → (k : ℕ) → k ≤ n → determinant F n (joined k MT M) ≡ determinant F n M
    unfolding MT
    lower_steps shape zero l = ap (determinant F n) (fun_ext (λ j. joined_high 0 MT M j (omega arith)))
    lower_steps shape (suc k) l =
        ap (determinant F n) (sym (joined_next k MT M))
        ∙ put_own n k M (joined k MT M) (T k) (omega arith) (λ j q e. side j e (dec_lt j k))
        ∙ ap₂ (λ a c. a ⊙ determinant F n c) (shape.diagonal k (omega arith)) (joined_here k MT M)
        ∙ one_product F W _ ∙ lower_steps shape k (omega arith)
      where
        side : (j : ℕ) → ¬ (j ≡ k) → Dec (j < k) → (T k j ≡ 𝟘) ⊎ (joined k MT M j ≡ M j)
        side j e (yes q) = inl (shape.above k j (omega arith) q)
        side j e (no q) = inr (joined_high k MT M j (omega arith))

    determinant_lower : UnitLower F n T → determinant F n (multiply F n M T) ≡ determinant F n M
    unfolding MT
    determinant_lower shape = all ∙ lower_steps shape n (omega arith)
      where
        all : determinant F n MT ≡ determinant F n (joined n MT M)
        all = determinant_cong F n MT (joined n MT M) (λ j i l q. ap (λ (c : ℕ → K). c i) (sym (joined_low n MT M j l)))

  determinant_unit_lower : (n : ℕ) (L : ℕ → ℕ → K) → UnitLower F n L → determinant F n L ≡ 𝟙
  unfolding determinant
  determinant_unit_lower zero L shape = refl
  determinant_unit_lower (suc n) L shape =
      total_single F W (suc n) 0 (λ j. sign F j ⊙ (L j 0 ⊙ determinant F n (minor j L))) (omega arith) later
      ∙ ap₂ (λ a d. 𝟙 ⊙ (a ⊙ d)) (shape.diagonal 0 (omega arith)) (determinant_unit_lower n (minor 0 L) inner)
      ∙ simp ring
    where
      later : (j : ℕ) → j < suc n → ¬ (j ≡ 0) → sign F j ⊙ (L j 0 ⊙ determinant F n (minor j L)) ≡ 𝟘
      later j l e = zero_by_right F W _ (zero_by_left F W _ (shape.above j 0 l (omega arith)))

      inner : UnitLower F n (minor 0 L)
      inner = record {
        diagonal = λ j l. shape.diagonal (suc j) (omega arith);
        above = λ j i l q. shape.above (suc j) (suc i) (omega arith) (omega arith);
      }

  -- The exchanges of P.

  length_last : (ts : List (ℕ × ℕ)) (t : ℕ × ℕ) → length (ts ++ (t ∷ [])) ≡ suc (length ts)
  length_last ts t = length-append ts (t ∷ []) ∙ omega arith

  determinant_turns : (o : ℕ → ℕ) (m n : ℕ) (M : ℕ → ℕ → K) → Inside o m n
      → determinant F m (λ j. M (from o n j)) ≡ sign F (length (turns o n)) ⊙ determinant F m M
  determinant_turns o m zero M h = sym (one_product F W (determinant F m M))
  determinant_turns o m (suc n) M h = go (ℕ_discrete (o n) 0) (determinant_turns o m n M (inside_less o m n h))
    where
      N : ℕ → ℕ → K
      N j = M (from o n j)

      turned : (s d : K) → ⊖ (s ⊙ d) ≡ ⊖ s ⊙ d
      turned s d = simp ring

      go : (d : Dec (o n ≡ 0)) → determinant F m N ≡ sign F (length (turns o n)) ⊙ determinant F m M
          → determinant F m (λ j. N (exchange n (n + o n) j)) ≡ sign F (length (choose d (turns o n) (turns o n ++ ((n, n + o n) ∷ [])))) ⊙ determinant F m M
      go (yes e) ih = ap (determinant F m) (fun_ext (λ j. ap (λ k. N (exchange n (n + k) j)) e ∙ ap N (exchange_none n j))) ∙ ih
      go (no e) ih =
          determinant_exchange F W m n (n + o n) N (let i = h n (omega arith) in omega arith) (h n (omega arith)) (omega arith)
          ∙ ap (λ t. ⊖ t) ih ∙ turned _ _ ∙ ap (λ k. sign F k ⊙ determinant F m M) (sym (length_last (turns o n) (n, n + o n)))

  -- a row of the unit matrix by P, a column of it by P
  unit_moves : (o : ℕ → ℕ) (n k i : ℕ) → unit F k (to o n i) ≡ unit F (from o n k) i
  unit_moves o n k i = go (ℕ_discrete k (to o n i))
    where
      go : Dec (k ≡ to o n i) → unit F k (to o n i) ≡ unit F (from o n k) i
      go (yes e) = unit_on F _ _ e ∙ sym (unit_on F _ _ (ap (from o n) e ∙ from_to o n i))
      go (no e) = unit_off F _ _ e ∙ sym (unit_off F _ _ (λ f. e (sym (to_from o n k) ∙ ap (to o n) f)))

  unit_unit_lower : (n : ℕ) → UnitLower F n (unit F)
  unit_unit_lower n = record { diagonal = λ j l. unit_on F j j refl; above = λ j i l q. unit_off F j i (λ e. omega arith) }

  -- a unit lower matrix with its rows by P
  determinant_unswapped : (o : ℕ → ℕ) (m n : ℕ) (L : ℕ → ℕ → K) → Inside o m n → UnitLower F m L
      → determinant F m (λ k i. L k (to o n i)) ≡ sign F (length (turns o n))
  determinant_unswapped o m n L h shape =
      determinant_cong F m _ (multiply F m P L) (λ j i l q. sym (combine_unit F W m (to o n i) (L j) (to_below o m n i h q)))
      ∙ determinant_lower m P L shape
      ∙ ap (determinant F m) (fun_ext (λ k. fun_ext (λ i. unit_moves o n k i)))
      ∙ determinant_turns o m n (unit F) h
      ∙ ap (λ t. sign F (length (turns o n)) ⊙ t) (determinant_unit_lower m (unit F) (unit_unit_lower m))
      ∙ W.product_one _
    where
      P : ℕ → ℕ → K
      P k i = unit F k (to o n i)

  diagonal_cong : (n : ℕ) (A B : ℕ → ℕ → K) → ((j : ℕ) → A j j ≡ B j j) → diagonal_product F n A ≡ diagonal_product F n B
  diagonal_cong zero A B h = refl
  diagonal_cong (suc n) A B h = ap₂ ◌⊙◌ (diagonal_cong n A B h) (h n)

  pub determinant_by_factors : (s : Packed K) → Valid F s → s.rank ≡ s.height → determinant F s.height (rebuilt F s) ≡ factored_determinant F s
  unfolding factored_determinant
  determinant_by_factors s v full =
      ap (λ n. determinant F n (rebuilt F s)) (sym full)
      ∙ ap (determinant F s.rank) (fun_ext (λ j. fun_ext (λ i. rebuilt_to F s j i)))
      ∙ determinant_upper s.rank L (upper F s) (λ j i l q. upper_out F s j i q)
      ∙ ap₂ ◌⊙◌ (diagonal_cong s.rank (upper F s) s.entry (λ j. upper_in F s j j (omega arith))) turned
      ∙ W.product_comm _ _
    where
      -- L with its rows by P
      L : ℕ → ℕ → K
      L k i = lower F s k (to s.offset s.rank i)

      inside : Inside s.offset s.rank s.rank
      inside k l = let h = v.inside k l in omega arith

      turned : determinant F s.rank L ≡ sign F (length (turns s.offset s.rank))
      turned = determinant_unswapped s.offset s.rank s.rank (lower F s) inside (unit_lower F s)
