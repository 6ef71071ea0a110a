-- Finite sums.
use Rattle.std.proofs.Common.{◌≡◌, ℕ, zero, suc, ◌<◌, sym, refl, ap, ◌∙◌, ap₂, arith}
use native.Mathlib.Decide.{ℕ_discrete}
use Rattle.arithmetic.specs.Fields.{Field, Lawful}
use Rattle.arithmetic.specs.Runs.{total}
use Rattle.columns.specs.Swaps.{put}
use Rattle.columns.proofs.Rings.{ring}
use Rattle.columns.proofs.Places.{put_at, put_off}

module _ {K : Type 0} (F : Field K) where
  infixl 65 ◌⊕◌
  open F use {sum as ◌⊕◌}

  pub total_cong : (n : ℕ) (f g : ℕ → K) → ((i : ℕ) → i < n → f i ≡ g i) → total F n f ≡ total F n g
  total_cong zero f g h = refl
  total_cong (suc n) f g h = ap₂ ◌⊕◌ (total_cong n f g (λ i l. h i (omega arith))) (h n (omega arith))

module _ {K : Type 0} (F : Field K) (W : Lawful F) where
  infixl 65 ◌⊕◌
  infixl 70 ◌⊙◌
  open F use {zero as 𝟘, sum as ◌⊕◌, product as ◌⊙◌}

  pub total_zeros : (n : ℕ) (f : ℕ → K) → ((i : ℕ) → i < n → f i ≡ 𝟘) → total F n f ≡ 𝟘
  total_zeros zero f h = refl
  total_zeros (suc n) f h = ap₂ ◌⊕◌ (total_zeros n f (λ i l. h i (omega arith))) (h n (omega arith)) ∙ simp ring

  pub total_sum : (n : ℕ) (f g : ℕ → K) → total F n (λ i. f i ⊕ g i) ≡ total F n f ⊕ total F n g
  total_sum zero f g = simp ring
  total_sum (suc n) f g = simp (total_sum n f g, ring)

  pub total_scale : (n : ℕ) (c : K) (f : ℕ → K) → total F n (λ i. c ⊙ f i) ≡ c ⊙ total F n f
  total_scale zero c f = simp ring
  total_scale (suc n) c f = simp (total_scale n c f, ring)

  pub total_scale_right : (n : ℕ) (c : K) (f : ℕ → K) → total F n (λ i. f i ⊙ c) ≡ total F n f ⊙ c
  total_scale_right zero c f = simp ring
  total_scale_right (suc n) c f = ap (λ t. t ⊕ f n ⊙ c) (total_scale_right n c f) ∙ simp ring

  -- a sum of sums, the other one first
  pub total_total : (n m : ℕ) (f : ℕ → ℕ → K) → total F n (λ i. total F m (λ j. f i j)) ≡ total F m (λ j. total F n (λ i. f i j))
  total_total zero m f = sym (total_zeros m (λ j. 𝟘) (λ j l. refl))
  total_total (suc n) m f = ap (λ t. t ⊕ total F m (f n)) (total_total n m f) ∙ sym (total_sum m (λ j. total F n (λ i. f i j)) (f n))

  pub total_first : (n : ℕ) (f : ℕ → K) → total F (suc n) f ≡ f 0 ⊕ total F n (λ i. f (suc i))
  total_first zero f = simp ring
  total_first (suc n) f = ap (λ t. t ⊕ f (suc n)) (total_first n f) ∙ simp ring

  -- all but one are zero
  pub total_single : (n i : ℕ) (f : ℕ → K) → i < n → ((j : ℕ) → j < n → ¬ (j ≡ i) → f j ≡ 𝟘) → total F n f ≡ f i
  total_single zero i f l h = absurd (omega arith)
  total_single (suc n) i f l h = go (ℕ_discrete n i) (total_single n i f)
    where
      go : Dec (n ≡ i) → (i < n → ((j : ℕ) → j < n → ¬ (j ≡ i) → f j ≡ 𝟘) → total F n f ≡ f i) → total F (suc n) f ≡ f i
      go (yes e) ih = ap₂ ◌⊕◌ (total_zeros n f (λ j k. h j (omega arith) (omega arith))) (ap f e) ∙ simp ring
      go (no e) ih = ap₂ ◌⊕◌ (ih (omega arith) (λ j k. h j (omega arith))) (h n (omega arith) e) ∙ simp ring

  -- one summand in place of another
  pub total_put : (n k : ℕ) (a : K) (f : ℕ → K) → k < n → f k ⊕ total F n (put k a f) ≡ a ⊕ total F n f
  total_put zero k a f l = absurd (omega arith)
  total_put (suc n) k a f l = go (ℕ_discrete n k) (total_put n k a f)
    where
      go : Dec (n ≡ k) → (k < n → f k ⊕ total F n (put k a f) ≡ a ⊕ total F n f) → f k ⊕ total F (suc n) (put k a f) ≡ a ⊕ total F (suc n) f
      go (yes e) ih =
          ap₂ (λ s t. f k ⊕ (s ⊕ t)) (total_cong F n (put k a f) f (λ i o. put_off k a f i (omega arith))) (ap (put k a f) e ∙ put_at k a f)
          ∙ ap (λ i. f i ⊕ (total F n f ⊕ a)) (sym e) ∙ simp ring
      go (no e) ih = sym (W.sum_assoc _ _ _) ∙ ap₂ ◌⊕◌ (ih (omega arith)) (put_off k a f n e) ∙ W.sum_assoc _ _ _
