-- Sums of products with columns and with their combinations.
use Rattle.std.proofs.Common.{◌≡◌, ℕ, suc, ◌<◌, sym, refl, ap, ◌∙◌, ap₂, arith}
use native.Mathlib.Decide.{ℕ_discrete}
use Rattle.arithmetic.specs.Fields.{Field, Lawful}
use Rattle.arithmetic.specs.Runs.{total, dot}
use Rattle.columns.specs.Linear.{combine, CombinationOf, Independent}
use Rattle.columns.specs.Swaps.{choose, put}
use Rattle.columns.proofs.Rings.{ring, zero_sum, one_product, zero_by_left, zero_by_right}
use Rattle.columns.proofs.Sums.{total_cong, total_zeros, total_sum, total_scale, total_scale_right, total_total, total_single, total_put}
use Rattle.columns.proofs.Places.{choose_yes, choose_no, put_at, put_off, put_map}

module _ {K : Type 0} (F : Field K) where
  infixl 65 ◌⊕◌
  infixl 70 ◌⊙◌
  open F use {zero as 𝟘, one as 𝟙, sum as ◌⊕◌, product as ◌⊙◌}

  dot_cong : (m : ℕ) (w b c : ℕ → K) → ((i : ℕ) → i < m → b i ≡ c i) → dot F m w b ≡ dot F m w c
  dot_cong m w b c e = total_cong F m _ _ (λ i l. ap (λ t. w i ⊙ t) (e i l))

  -- a last coefficient
  pub combine_put : (r : ℕ) (A : ℕ → ℕ → K) (x : ℕ → K) (a : K) (i : ℕ) → combine F (suc r) A (put r a x) i ≡ combine F r A x i ⊕ A r i ⊙ a
  combine_put r A x a i = ap₂ ◌⊕◌ (total_cong F r _ _ (λ j q. ap (λ t. A j i ⊙ t) (put_off r a x j (omega arith)))) (ap (λ t. A r i ⊙ t) (put_at r a x))

  -- The columns of the unit matrix.

  pub unit : ℕ → ℕ → K
  unit j i = choose (ℕ_discrete j i) 𝟙 𝟘

  pub unit_on : (j i : ℕ) → j ≡ i → unit j i ≡ 𝟙
  unfolding unit
  unit_on j i e = choose_yes (ℕ_discrete j i) 𝟙 𝟘 e

  pub unit_off : (j i : ℕ) → ¬ (j ≡ i) → unit j i ≡ 𝟘
  unfolding unit
  unit_off j i e = choose_no (ℕ_discrete j i) 𝟙 𝟘 e

module _ {K : Type 0} (F : Field K) (W : Lawful F) where
  infixl 65 ◌⊕◌
  infixl 70 ◌⊙◌
  infix 80 ⊖◌
  open F use {zero as 𝟘, one as 𝟙, sum as ◌⊕◌, negative as ⊖◌, product as ◌⊙◌}

  pub dot_sum : (m : ℕ) (w b c : ℕ → K) (a : K) → dot F m w (λ i. b i ⊕ a ⊙ c i) ≡ dot F m w b ⊕ a ⊙ dot F m w c
  dot_sum m w b c a =
      total_cong F m _ (λ i. w i ⊙ b i ⊕ a ⊙ (w i ⊙ c i)) (λ i l. simp ring)
      ∙ total_sum F W m _ _ ∙ ap (λ t. dot F m w b ⊕ t) (total_scale F W m a (λ i. w i ⊙ c i))

  pub sum_dot : (m : ℕ) (w u b : ℕ → K) (a : K) → dot F m (λ i. w i ⊕ a ⊙ u i) b ≡ dot F m w b ⊕ a ⊙ dot F m u b
  sum_dot m w u b a =
      total_cong F m _ (λ i. w i ⊙ b i ⊕ a ⊙ (u i ⊙ b i)) (λ i l. simp ring)
      ∙ total_sum F W m _ _ ∙ ap (λ t. dot F m w b ⊕ t) (total_scale F W m a (λ i. u i ⊙ b i))

  -- a column of two parts
  pub dot_parts : (m : ℕ) (w b c d : ℕ → K) → ((i : ℕ) → b i ≡ c i ⊕ d i) → dot F m w b ≡ dot F m w c ⊕ dot F m w d
  dot_parts m w b c d e = total_cong F m _ _ (λ i l. ap (λ t. w i ⊙ t) (e i) ∙ W.distrib (w i) (c i) (d i)) ∙ total_sum F W m _ _

  -- a value put in where zero was
  pub dot_put : (m k : ℕ) (a : K) (w b : ℕ → K) → k < m → w k ≡ 𝟘 → dot F m (put k a w) b ≡ dot F m w b ⊕ a ⊙ b k
  dot_put m k a w b l z =
      ap (total F m) (sym (put_map (λ i t. t ⊙ b i) k a w)) ∙ sym (zero_sum F W after)
      ∙ ap (λ t. t ⊕ after) (sym (zero_by_left F W (b k) z))
      ∙ total_put F W m k (a ⊙ b k) (λ i. w i ⊙ b i) l ∙ W.sum_comm _ _
    where
      after : K
      after = total F m (put k (a ⊙ b k) (λ i. w i ⊙ b i))

  -- w (A x) = (w A) x
  pub dot_combine : (m r : ℕ) (A : ℕ → ℕ → K) (w x : ℕ → K) → dot F m w (combine F r A x) ≡ total F r (λ j. dot F m w (A j) ⊙ x j)
  dot_combine m r A w x =
      total_cong F m _ (λ i. total F r (λ j. term i j)) (λ i l. row i)
      ∙ total_total F W m r term
      ∙ total_cong F r _ _ (λ j q. total_scale_right F W m (x j) (λ i. w i ⊙ A j i))
    where
      term : ℕ → ℕ → K
      term i j = (w i ⊙ A j i) ⊙ x j

      row : (i : ℕ) → w i ⊙ combine F r A x i ≡ total F r (λ j. term i j)
      row i = sym (total_scale F W r (w i) (λ j. A j i ⊙ x j)) ∙ total_cong F r _ _ (λ j q. sym (W.product_assoc (w i) (A j i) (x j)))

  -- (A C) x = A (C x)
  pub combine_multiply : (r n : ℕ) (A C : ℕ → ℕ → K) (x : ℕ → K) (i : ℕ)
      → combine F n (λ j. combine F r A (C j)) x i ≡ combine F r A (combine F n C x) i
  combine_multiply r n A C x i = sym (dot_combine r n C (λ k. A k i) x)

  -- on a combination, a sum of products is the same combination of those on the columns
  dot_combination : (m r : ℕ) (A : ℕ → ℕ → K) (b w x : ℕ → K) → ((i : ℕ) → i < m → combine F r A x i ≡ b i)
      → dot F m w b ≡ total F r (λ j. dot F m w (A j) ⊙ x j)
  dot_combination m r A b w x e = sym (dot_cong F m w (combine F r A x) b e) ∙ dot_combine m r A w x

  -- what rests at every column rests at their combinations
  pub rests_at_combination : (m r : ℕ) (A : ℕ → ℕ → K) (b w : ℕ → K) → ((j : ℕ) → j < r → dot F m w (A j) ≡ 𝟘)
      → CombinationOf F m r A b → dot F m w b ≡ 𝟘
  rests_at_combination m r A b w rests (x, e) =
      dot_combination m r A b w x e ∙ total_zeros F W r _ (λ j l. zero_by_left F W (x j) (rests j l))

  -- what agrees on every column agrees on their combinations
  pub agrees_on_combination : (m r : ℕ) (A : ℕ → ℕ → K) (b u w : ℕ → K) → ((j : ℕ) → j < r → dot F m u (A j) ≡ dot F m w (A j))
      → CombinationOf F m r A b → dot F m u b ≡ dot F m w b
  agrees_on_combination m r A b u w agree (x, e) =
      dot_combination m r A b u x e ∙ total_cong F r _ _ (λ j l. ap (λ t. t ⊙ x j) (agree j l)) ∙ sym (dot_combination m r A b w x e)

  -- independent columns have one combination at most
  pub independent_unique : (m r : ℕ) (A : ℕ → ℕ → K) (x y : ℕ → K) → Independent F m r A
      → ((i : ℕ) → i < m → combine F r A x i ≡ combine F r A y i) → (j : ℕ) → j < r → x j ≡ y j
  independent_unique m r A x y free e j l =
      sym (back (x j) (y j)) ∙ ap (λ t. t ⊕ y j) (free (λ j. x j ⊕ ⊖ 𝟙 ⊙ y j) zeros j l) ∙ zero_sum F W (y j)
    where
      gone : (a : K) → a ⊕ ⊖ 𝟙 ⊙ a ≡ 𝟘
      gone a = simp ring

      back : (a b : K) → (a ⊕ ⊖ 𝟙 ⊙ b) ⊕ b ≡ a
      back a b = simp ring

      zeros : (i : ℕ) → i < m → combine F r A (λ j. x j ⊕ ⊖ 𝟙 ⊙ y j) i ≡ 𝟘
      zeros i q =
          dot_sum r (λ j. A j i) x y (⊖ 𝟙) ∙ ap (λ t. t ⊕ ⊖ 𝟙 ⊙ combine F r A y i) (e i q) ∙ gone (combine F r A y i)

  pub dot_unit : (m i : ℕ) (w : ℕ → K) → i < m → dot F m w (unit F i) ≡ w i
  dot_unit m i w l =
      total_single F W m i _ l (λ j q e. zero_by_right F W (w j) (unit_off F i j (λ f. e (sym f))))
      ∙ ap (λ t. w i ⊙ t) (unit_on F i i refl) ∙ W.product_one (w i)

  pub combine_unit : (n i : ℕ) (x : ℕ → K) → i < n → combine F n (unit F) x i ≡ x i
  combine_unit n i x l =
      total_single F W n i _ l (λ j q e. zero_by_left F W (x j) (unit_off F j i e))
      ∙ ap (λ t. t ⊙ x i) (unit_on F i i refl) ∙ one_product F W (x i)
