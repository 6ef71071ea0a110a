-- Every column is a combination of the given ones, or a motion shows that it is none.
use Rattle.std.proofs.Common.{◌≡◌, ℕ, zero, suc, ◌<◌, ◌⊎◌, sym, refl, ap, ◌∙◌, ap₂, inl, inr, arith}
use Rattle.arithmetic.specs.Fields.{Field, Lawful}
use Rattle.arithmetic.specs.Runs.{dot}
use Rattle.columns.specs.Linear.{combine, CombinationOf, Motion}
use Rattle.columns.specs.Swaps.{put}
use Rattle.columns.proofs.Rings.{ring, zero_sum, zero_product, product_zero}
use Rattle.columns.proofs.Places.{below_next}
use Rattle.columns.proofs.Leads.{Zeros, nonzero_or_zeros}
use Rattle.columns.proofs.Sums.{total_zeros}
use Rattle.columns.proofs.Combinations.{dot_sum, sum_dot, dot_put, combine_put, rests_at_combination}

module _ {K : Type 0} (F : Field K) (W : Lawful F) where
  infixl 65 ◌⊕◌
  infixl 70 ◌⊙◌
  infix 80 ⊖◌
  open F use {zero as 𝟘, one as 𝟙, sum as ◌⊕◌, negative as ⊖◌, product as ◌⊙◌, inverse}

  pub never_both : (m r : ℕ) (A : ℕ → ℕ → K) (b w : ℕ → K) → Motion F m r A b w → ¬ CombinationOf F m r A b
  never_both m r A b w h c = W.apart (sym (rests_at_combination F W m r A b w h.rests c) ∙ h.moves)

  abbrev Either : ℕ → ℕ → (ℕ → ℕ → K) → (ℕ → K) → Type 0
  Either m r A b = CombinationOf F m r A b ⊎ ((w : ℕ → K) × Motion F m r A b w)

  -- of no columns: zero, or a nonzero entry is moved
  of_none : (m : ℕ) (A : ℕ → ℕ → K) (b : ℕ → K) → Either m 0 A b
  of_none m A b = go (nonzero_or_zeros F W m b)
    where
      go : ((i : ℕ) × (i < m) × ¬ (b i ≡ 𝟘)) ⊎ Zeros F m b → Either m 0 A b
      go (inr zeros) = inl (λ j. 𝟘, λ i l. sym (zeros i l))
      go (inl (i, l, h)) = inr (put i (inverse (b i)) (λ k. 𝟘), record { rests = λ j q. absurd (omega arith); moves = moves })
        where
          one : inverse (b i) ⊙ b i ≡ 𝟙
          one = W.product_comm (inverse (b i)) (b i) ∙ W.product_inverse (b i) h

          moves : dot F m (put i (inverse (b i)) (λ k. 𝟘)) b ≡ 𝟙
          moves =
              dot_put F W m i (inverse (b i)) (λ k. 𝟘) b l refl
              ∙ ap₂ ◌⊕◌ (total_zeros F W m _ (λ k q. zero_product F W (b k))) one
              ∙ zero_sum F W 𝟙

  module _ (m r : ℕ) (A : ℕ → ℕ → K) (b : ℕ → K) where
    -- the next column is a combination of those before: it changes nothing
    next_combination : CombinationOf F m r A (A r) → Either m r A b → Either m (suc r) A b
    next_combination c (inl (x, e)) = inl (put r 𝟘 x, λ i l. combine_put F r A x 𝟘 i ∙ ap₂ ◌⊕◌ (e i l) (product_zero F W (A r i)) ∙ W.sum_zero (b i))
    next_combination c (inr (w, k)) = inr (w, record { rests = rests; moves = k.moves })
      where
        rests : (j : ℕ) → j < suc r → dot F m w (A j) ≡ 𝟘
        rests = below_next (λ j. dot F m w (A j) ≡ 𝟘) r k.rests (rests_at_combination F W m r A (A r) w k.rests c)

    -- a motion w for the next column: b less its multiple of that column
    less : (ℕ → K) → ℕ → K
    less w i = b i ⊕ ⊖ dot F m w b ⊙ A r i

    next_motion : (w : ℕ → K) → Motion F m r A (A r) w → Either m r A (less w) → Either m (suc r) A b
    unfolding less
    next_motion w h (inl (x, e)) = inl (put r (dot F m w b) x, gives)
      where
        again : (b a c : K) → (b ⊕ ⊖ c ⊙ a) ⊕ a ⊙ c ≡ b
        again b a c = simp ring

        gives : (i : ℕ) → i < m → combine F (suc r) A (put r (dot F m w b) x) i ≡ b i
        gives i l =
            combine_put F r A x (dot F m w b) i ∙ ap (λ t. t ⊕ A r i ⊙ dot F m w b) (e i l) ∙ again (b i) (A r i) (dot F m w b)
    next_motion w h (inr (u, k)) = inr (λ i. u i ⊕ ⊖ dot F m u (A r) ⊙ w i, record { rests = rests; moves = moves })
      where
        turn : (a b c : K) → b ⊕ ⊖ a ⊙ c ≡ b ⊕ ⊖ c ⊙ a
        turn a b c = simp ring

        gone : (a : K) → a ⊕ ⊖ a ⊙ 𝟙 ≡ 𝟘
        gone a = simp ring

        before : (j : ℕ) → j < r → dot F m u (A j) ⊕ ⊖ dot F m u (A r) ⊙ dot F m w (A j) ≡ 𝟘
        before j l = rw (k.rests j l, h.rests j l) (simp ring)

        at : dot F m u (A r) ⊕ ⊖ dot F m u (A r) ⊙ dot F m w (A r) ≡ 𝟘
        at = rw h.moves (gone (dot F m u (A r)))

        rests : (j : ℕ) → j < suc r → dot F m (λ i. u i ⊕ ⊖ dot F m u (A r) ⊙ w i) (A j) ≡ 𝟘
        rests j l =
            sum_dot F W m u w (A j) (⊖ dot F m u (A r))
            ∙ below_next (λ j. dot F m u (A j) ⊕ ⊖ dot F m u (A r) ⊙ dot F m w (A j) ≡ 𝟘) r before at j l

        moves : dot F m (λ i. u i ⊕ ⊖ dot F m u (A r) ⊙ w i) b ≡ 𝟙
        moves =
            sum_dot F W m u w b (⊖ dot F m u (A r)) ∙ turn (dot F m u (A r)) (dot F m u b) (dot F m w b)
            ∙ sym (dot_sum F W m u b (A r) (⊖ dot F m w b)) ∙ k.moves

  pub either : (m r : ℕ) (A : ℕ → ℕ → K) (b : ℕ → K) → CombinationOf F m r A b ⊎ ((w : ℕ → K) × Motion F m r A b w)
  either m zero A b = of_none m A b
  either m (suc r) A b = go (either m r A (A r)) (either m r A)
    where
      go : Either m r A (A r) → ((c : ℕ → K) → Either m r A c) → Either m (suc r) A b
      go (inl c) each = next_combination m r A b c (each b)
      go (inr (w, h)) each = next_motion m r A b w h (each (less m r A b w))
