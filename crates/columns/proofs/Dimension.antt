-- How many columns can be independent.
use Rattle.std.proofs.Common.{◌≡◌, ℕ, zero, suc, ◌<◌, ◌≤◌, ◌⊎◌, sym, refl, ap, ◌∙◌, subst, ap₂, inl, inr, arith}
use native.Mathlib.Decide.{ℕ_discrete, dec_lt}
use Rattle.arithmetic.specs.Fields.{Field, Lawful}
use Rattle.arithmetic.specs.Runs.{total}
use Rattle.columns.specs.Linear.{combine, CombinationOf, Independent, Dependent, Selection}
use Rattle.columns.specs.Swaps.{put}
use Rattle.columns.specs.Determinants.{skip}
use Rattle.columns.proofs.Rings.{ring, one_product, product_zero, zero_by_left, zero_by_right}
use Rattle.columns.proofs.Places.{below_next, put_off}
use Rattle.columns.proofs.Sums.{total_cong, total_zeros, total_sum, total_scale, total_single}
use Rattle.columns.proofs.Leads.{Zeros, nonzero_or_zeros}
use Rattle.columns.proofs.Skips.{insert, skip_below, insert_at, insert_skip, total_skip}
use Rattle.columns.proofs.Combinations.{combine_multiply, combine_put, dot_combine, unit, unit_on, unit_off, dot_unit}

module _ {K : Type 0} (F : Field K) (W : Lawful F) where
  infixl 65 ◌⊕◌
  infixl 70 ◌⊙◌
  infix 80 ⊖◌
  open F use {zero as 𝟘, one as 𝟙, sum as ◌⊕◌, negative as ⊖◌, product as ◌⊙◌, inverse}

  -- f p divides every f j
  abbrev Clears : ℕ → (ℕ → K) → ℕ → Type 0
  Clears n f p = (j : ℕ) → j < n → f p ⊙ (inverse (f p) ⊙ f j) ≡ f j

  clearing_place : (n : ℕ) (f : ℕ → K) → (p : ℕ) × (p ≤ n) × Clears (suc n) f p
  clearing_place n f = go (nonzero_or_zeros F W (suc n) f)
    where
      go : ((j : ℕ) × (j < suc n) × ¬ (f j ≡ 𝟘)) ⊎ Zeros F (suc n) f → (p : ℕ) × (p ≤ n) × Clears (suc n) f p
      go (inl (p, l, h)) = (p, omega arith, λ j k. divides j)
        where
          divides : (j : ℕ) → f p ⊙ (inverse (f p) ⊙ f j) ≡ f j
          divides j = sym (W.product_assoc (f p) (inverse (f p)) (f j)) ∙ ap (λ t. t ⊙ f j) (W.product_inverse (f p) h) ∙ one_product F W (f j)
      go (inr h) = (0, omega arith, λ j k. rw (h j k) (simp ring))

  -- Column p clears the row r of the n other columns.
  module _ (n p r : ℕ) (C : ℕ → ℕ → K) where
    cleared : ℕ → ℕ → K
    cleared j i = C (skip p j) i ⊕ ⊖ (C p i ⊙ (inverse (C p r) ⊙ C (skip p j) r))

    module _ (x : ℕ → K) where
      others : ℕ → K
      others i = total F n (λ j. C (skip p j) i ⊙ x j)

      -- x for the others, and what it takes of column p
      lifted : ℕ → K
      lifted = insert p (⊖ (inverse (C p r) ⊙ others r)) x

      combine_lifted : p ≤ n → (i : ℕ) → combine F (suc n) C lifted i ≡ others i ⊕ ⊖ (C p i ⊙ (inverse (C p r) ⊙ others r))
      unfolding lifted others
      combine_lifted bound i =
          total_skip F W n p (λ j. C j i ⊙ lifted j) bound ∙ ap₂ ◌⊕◌ (ap (λ t. C p i ⊙ t) (insert_at p taken x)) (total_cong F n _ _ other) ∙ simp ring
        where
          taken : K
          taken = ⊖ (inverse (C p r) ⊙ others r)

          other : (j : ℕ) → j < n → C (skip p j) i ⊙ insert p taken x (skip p j) ≡ C (skip p j) i ⊙ x j
          other j l = ap (λ t. C (skip p j) i ⊙ t) (insert_skip p taken x j)

      combine_cleared : (i : ℕ) → combine F n cleared x i ≡ others i ⊕ ⊖ (C p i ⊙ (inverse (C p r) ⊙ others r))
      unfolding cleared others
      combine_cleared i =
          total_cong F n _ (λ j. C (skip p j) i ⊙ x j ⊕ (⊖ (C p i ⊙ inverse (C p r))) ⊙ (C (skip p j) r ⊙ x j)) (λ j l. simp ring)
          ∙ total_sum F W n _ _
          ∙ ap (λ t. others i ⊕ t) (total_scale F W n (⊖ (C p i ⊙ inverse (C p r))) (λ j. C (skip p j) r ⊙ x j))
          ∙ simp ring

      row_cleared : Clears (suc n) (λ j. C j r) p → combine F n cleared x r ≡ 𝟘
      unfolding cleared
      row_cleared clears = total_zeros F W n _ (λ j l. rw (clears (skip p j) (skip_below n p j l), cleared) (simp ring))

      lifted_zero : p ≤ n → (i : ℕ) → combine F n cleared x i ≡ 𝟘 → combine F (suc n) C lifted i ≡ 𝟘
      lifted_zero bound i e = combine_lifted bound i ∙ sym (combine_cleared i) ∙ e

      lifted_nonzero : (j : ℕ) → ¬ (x j ≡ 𝟘) → ¬ (lifted (skip p j) ≡ 𝟘)
      unfolding lifted
      lifted_nonzero j h e = h (sym (insert_skip p (⊖ (inverse (C p r) ⊙ others r)) x j) ∙ e)

  -- r + 1 columns of height r
  one_too_many : (r : ℕ) (C : ℕ → ℕ → K) → Dependent F r (suc r) C
  one_too_many zero C = (λ j. 𝟙, ((0, omega arith, λ e. W.apart (sym e)), λ i l. absurd (omega arith)))
  one_too_many (suc r) C = go (clearing_place (suc r) (λ j. C j r)) (one_too_many r)
    where
      go : ((p : ℕ) × (p ≤ suc r) × Clears (suc (suc r)) (λ j. C j r) p) → ((D : ℕ → ℕ → K) → Dependent F r (suc r) D)
          → Dependent F (suc r) (suc (suc r)) C
      go (p, bound, clears) ih =
          let (x, ((j, l, h), zeros)) = ih (cleared (suc r) p r C) in
          (lifted (suc r) p r C x, ((skip p j, skip_below (suc r) p j l, lifted_nonzero (suc r) p r C x j h), lifted_zeros x zeros))
        where
          lifted_zeros : (x : ℕ → K) → Zeros F r (combine F (suc r) (cleared (suc r) p r C) x)
              → Zeros F (suc r) (combine F (suc (suc r)) C (lifted (suc r) p r C x))
          lifted_zeros x zeros i k = lifted_zero (suc r) p r C x bound i
              (below_next (λ i. combine F (suc r) (cleared (suc r) p r C) x i ≡ 𝟘) r zeros (row_cleared (suc r) p r C x clears) i k)

  -- r + 1 combinations of r columns
  module _ (m r : ℕ) (A B : ℕ → ℕ → K) (combinations : (j : ℕ) → j < suc r → CombinationOf F m r A (B j)) where
    coefficients : (j : ℕ) → Dec (j < suc r) → ℕ → K
    coefficients j (yes l) = (combinations j l).0
    coefficients j (no l) = λ k. 𝟘

    C : ℕ → ℕ → K
    C j = coefficients j (dec_lt j (suc r))

    coefficients_give : (j : ℕ) → j < suc r → (i : ℕ) → i < m → combine F r A (C j) i ≡ B j i
    unfolding coefficients C
    coefficients_give j l = go (dec_lt j (suc r))
      where
        go : (d : Dec (j < suc r)) → (i : ℕ) → i < m → combine F r A (coefficients j d) i ≡ B j i
        go (yes k) = (combinations j k).1
        go (no k) = absurd (k l)

    zero_by_coefficients : (x : ℕ → K) → Zeros F r (combine F (suc r) C x) → Zeros F m (combine F (suc r) B x)
    zero_by_coefficients x zeros i l =
        sym (total_cong F (suc r) (λ j. combine F r A (C j) i ⊙ x j) _ (λ j k. ap (λ t. t ⊙ x j) (coefficients_give j k i l)))
        ∙ combine_multiply F W r (suc r) A C x i
        ∙ total_zeros F W r _ (λ k q. zero_by_right F W (A k i) (zeros k q))

    one_more_depends : Dependent F m (suc r) B
    one_more_depends = let (x, (nonzero, zeros)) = one_too_many r C in (x, (nonzero, zero_by_coefficients x zeros))

  -- one column more stays dependent
  dependent_next : (m n : ℕ) (B : ℕ → ℕ → K) → Dependent F m n B → Dependent F m (suc n) B
  dependent_next m n B (x, ((j, l, h), zeros)) = (put n 𝟘 x, ((j, omega arith, λ e. h (sym (put_off n 𝟘 x j (omega arith)) ∙ e)), λ i k. still i k))
    where
      still : (i : ℕ) → i < m → combine F (suc n) B (put n 𝟘 x) i ≡ 𝟘
      still i k = combine_put F n B x 𝟘 i ∙ ap₂ ◌⊕◌ (zeros i k) (product_zero F W (B n i)) ∙ W.sum_zero 𝟘

  pub more_depend : (m r n : ℕ) (A B : ℕ → ℕ → K) → ((j : ℕ) → j < n → CombinationOf F m r A (B j)) → r < n → Dependent F m n B
  more_depend m r zero A B combinations l = absurd (omega arith)
  more_depend m r (suc n) A B combinations l = go (ℕ_discrete n r) (more_depend m r n A B (λ j k. combinations j (omega arith)))
    where
      go : Dec (n ≡ r) → (r < n → Dependent F m n B) → Dependent F m (suc n) B
      go (yes e) ih = subst (λ k. Dependent F m (suc k) B) (sym e) (one_more_depends m r A B (λ j k. combinations j (omega arith)))
      go (no e) ih = dependent_next m n B (ih (omega arith))

  pub independent_no_more : (m r n : ℕ) (A B : ℕ → ℕ → K) → ((j : ℕ) → j < n → CombinationOf F m r A (B j)) → Independent F m n B → n ≤ r
  independent_no_more m r n A B combinations free = go (dec_lt r n)
    where
      go : Dec (r < n) → n ≤ r
      go (yes l) = let (x, ((j, k, h), zeros)) = more_depend m r n A B combinations l in absurd (h (free x zeros j k))
      go (no l) = omega arith

  pub selection_no_longer : (m r n k : ℕ) (A B : ℕ → ℕ → K) (place : ℕ → ℕ) → ((j : ℕ) → j < n → CombinationOf F m r A (B j))
      → Selection n k place → Independent F m k (λ j. B (place j)) → k ≤ r
  selection_no_longer m r n k A B place combinations selection =
      independent_no_more m r k A (λ j. B (place j)) (λ j l. combinations (place j) (selection.inside j l))

  -- x of the selected columns, zero for the others
  module _ (n k : ℕ) (place : ℕ → ℕ) (selection : Selection n k place) (x : ℕ → K) where
    spread : ℕ → K
    spread i = combine F k (λ j. unit F (place j)) x i

    combine_spread : (A : ℕ → ℕ → K) (i : ℕ) → combine F n A spread i ≡ combine F k (λ j. A (place j)) x i
    unfolding spread
    combine_spread A i =
        dot_combine F W n k (λ j. unit F (place j)) (λ l. A l i) x
        ∙ total_cong F k _ _ (λ j l. ap (λ t. t ⊙ x j) (dot_unit F W n (place j) (λ l. A l i) (selection.inside j l)))

    spread_place : (j : ℕ) → j < k → spread (place j) ≡ x j
    unfolding spread
    spread_place j l =
        total_single F W k j _ l (λ i q e. zero_by_left F W (x i) (unit_off F (place i) (place j) (λ f. e (selection.apart i j q l f))))
        ∙ ap (λ t. t ⊙ x j) (unit_on F (place j) (place j) refl) ∙ one_product F W (x j)

  pub selection_independent : (m n k : ℕ) (A : ℕ → ℕ → K) (place : ℕ → ℕ)
      → Selection n k place → Independent F m n A → Independent F m k (λ j. A (place j))
  selection_independent m n k A place selection free x zeros j l =
      sym (spread_place n k place selection x j l)
      ∙ free (spread n k place selection x) (λ i q. combine_spread n k place selection x A i ∙ zeros i q) (place j) (selection.inside j l)
