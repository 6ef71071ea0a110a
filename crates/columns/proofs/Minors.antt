-- The determinant with a column put in: its expansion, linear in that column, and zero where two neighbours are equal.
use Rattle.std.proofs.Common.{◌≡◌, ℕ, zero, suc, ◌<◌, ◌≤◌, sym, ap, ◌∙◌, ap₂, arith}
use mathlib.Core.Path.{fun_ext}
use Rattle.arithmetic.specs.Fields.{Field, Lawful}
use Rattle.arithmetic.specs.Runs.{total}
use Rattle.columns.specs.Determinants.{skip, minor, sign, determinant}
use Rattle.columns.proofs.Rings.{ring}
use Rattle.columns.proofs.Sums.{total_cong, total_zeros, total_sum, total_scale}
use Rattle.columns.proofs.Skips.{skip_self, insert, insert_at, insert_skip, insert_map, drop, drop_below, drop_self, drop_skip, insert_drop, total_skip}

module _ {K : Type 0} where
  -- without the first row
  rows_after : (ℕ → K) → ℕ → K
  rows_after c i = c (suc i)

  abbrev tail : (ℕ → ℕ → K) → ℕ → ℕ → K
  tail A j i = A j (suc i)

  tail_insert : (p : ℕ) (u : ℕ → K) (A : ℕ → ℕ → K) → tail (insert p u A) ≡ insert p (λ i. u (suc i)) (tail A)
  unfolding rows_after
  tail_insert p u A = fun_ext (λ l. insert_map rows_after p u A l)

  minor_here : (p : ℕ) (u : ℕ → K) (A : ℕ → ℕ → K) → minor p (insert p u A) ≡ tail A
  unfolding rows_after
  minor_here p u A = fun_ext (λ l. ap rows_after (insert_skip p u A l))

  minor_other : (p k : ℕ) (u : ℕ → K) (A : ℕ → ℕ → K) → minor (skip p k) (insert p u A) ≡ insert (drop p k) (λ i. u (suc i)) (minor k A)
  unfolding rows_after
  minor_other p k u A = fun_ext (λ l. ap rows_after (insert_drop p k u A l) ∙ insert_map rows_after (drop p k) u (λ j. A (skip k j)) l)

module _ {K : Type 0} (F : Field K) (W : Lawful F) where
  infixl 65 ◌⊕◌
  infixl 70 ◌⊙◌
  infix 80 ⊖◌
  open F use {zero as 𝟘, sum as ◌⊕◌, negative as ⊖◌, product as ◌⊙◌}

  -- the term of the column k of A, with u at p
  other : (n p : ℕ) (u : ℕ → K) (A : ℕ → ℕ → K) → ℕ → K
  other n p u A k = sign F (skip p k) ⊙ (A k 0 ⊙ determinant F n (insert (drop p k) (λ i. u (suc i)) (minor k A)))

  expansion : (n p : ℕ) (u : ℕ → K) (A : ℕ → ℕ → K) → p ≤ n
      → determinant F (suc n) (insert p u A) ≡ sign F p ⊙ (u 0 ⊙ determinant F n (tail A)) ⊕ total F n (other n p u A)
  unfolding other determinant
  expansion n p u A l = total_skip F W n p term l ∙ ap₂ ◌⊕◌ here (total_cong F n _ _ (λ k q. there k))
    where
      term : ℕ → K
      term j = sign F j ⊙ (insert p u A j 0 ⊙ determinant F n (minor j (insert p u A)))

      here : term p ≡ sign F p ⊙ (u 0 ⊙ determinant F n (tail A))
      here = ap₂ (λ (c : ℕ → K) d. sign F p ⊙ (c 0 ⊙ determinant F n d)) (insert_at p u A) (minor_here p u A)

      there : (k : ℕ) → term (skip p k) ≡ other n p u A k
      there k = ap₂ (λ (c : ℕ → K) d. sign F (skip p k) ⊙ (c 0 ⊙ determinant F n d)) (insert_skip p u A k) (minor_other p k u A)

  -- linear, where the other terms are
  linear_from : (n p : ℕ) (a : K) (u v : ℕ → K) (A : ℕ → ℕ → K) → p ≤ n
      → total F n (other n p (λ i. a ⊙ u i ⊕ v i) A) ≡ a ⊙ total F n (other n p u A) ⊕ total F n (other n p v A)
      → determinant F (suc n) (insert p (λ i. a ⊙ u i ⊕ v i) A) ≡ a ⊙ determinant F (suc n) (insert p u A) ⊕ determinant F (suc n) (insert p v A)
  linear_from n p a u v A l e =
      expansion n p (λ i. a ⊙ u i ⊕ v i) A l
      ∙ ap (λ t. sign F p ⊙ ((a ⊙ u 0 ⊕ v 0) ⊙ determinant F n (tail A)) ⊕ t) e
      ∙ sorted (sign F p) a (u 0) (v 0) (determinant F n (tail A)) (total F n (other n p u A)) (total F n (other n p v A))
      ∙ sym (ap₂ (λ s t. a ⊙ s ⊕ t) (expansion n p u A l) (expansion n p v A l))
    where
      sorted : (s a u v d x y : K) → s ⊙ ((a ⊙ u ⊕ v) ⊙ d) ⊕ (a ⊙ x ⊕ y) ≡ a ⊙ (s ⊙ (u ⊙ d) ⊕ x) ⊕ (s ⊙ (v ⊙ d) ⊕ y)
      sorted s a u v d x y = simp ring

  pub insert_linear : (n p : ℕ) (a : K) (u v : ℕ → K) (A : ℕ → ℕ → K) → p ≤ n
      → determinant F (suc n) (insert p (λ i. a ⊙ u i ⊕ v i) A) ≡ a ⊙ determinant F (suc n) (insert p u A) ⊕ determinant F (suc n) (insert p v A)
  unfolding other
  insert_linear zero p a u v A l = linear_from zero p a u v A l (simp ring)
  insert_linear (suc n) p a u v A l = linear_from (suc n) p a u v A l
      (total_cong F (suc n) _ (λ k. a ⊙ other (suc n) p u A k ⊕ other (suc n) p v A k) (λ k q.
      term k (insert_linear n (drop p k) a (λ i. u (suc i)) (λ i. v (suc i)) (minor k A) (drop_below n p k l q)))
      ∙ total_sum F W (suc n) (λ k. a ⊙ other (suc n) p u A k) (other (suc n) p v A)
      ∙ ap (λ t. t ⊕ total F (suc n) (other (suc n) p v A)) (total_scale F W (suc n) a (other (suc n) p u A)))
    where
      sorted : (s a c x y : K) → s ⊙ (c ⊙ (a ⊙ x ⊕ y)) ≡ a ⊙ (s ⊙ (c ⊙ x)) ⊕ s ⊙ (c ⊙ y)
      sorted s a c x y = simp ring

      term : (k : ℕ) {x y z : K} → z ≡ a ⊙ x ⊕ y → sign F (skip p k) ⊙ (A k 0 ⊙ z) ≡ a ⊙ (sign F (skip p k) ⊙ (A k 0 ⊙ x)) ⊕ sign F (skip p k) ⊙ (A k 0 ⊙ y)
      term k e = ap (λ t. sign F (skip p k) ⊙ (A k 0 ⊙ t)) e ∙ sorted _ a _ _ _

  -- the two equal columns' terms go out, where the others are zero
  neighbours_from : (n p : ℕ) (u : ℕ → K) (A : ℕ → ℕ → K) → p ≤ n
      → ((l : ℕ) → l < n → determinant F (suc n) (insert (drop p l) (λ i. u (suc i)) (insert (drop p l) (λ i. u (suc i)) (minor l A))) ≡ 𝟘)
      → determinant F (suc (suc n)) (insert p u (insert p u A)) ≡ 𝟘
  unfolding other
  neighbours_from n p u A q zeros =
      expansion (suc n) p u (insert p u A) (omega arith)
      ∙ ap₂ ◌⊕◌ (ap (λ d. sign F p ⊙ (u 0 ⊙ determinant F (suc n) d)) (tail_insert p u A)) (total_skip F W n p term q)
      ∙ ap₂ (λ s t. sign F p ⊙ (u 0 ⊙ D) ⊕ (s ⊕ t)) second (total_zeros F W n _ others)
      ∙ gone (sign F p) (u 0) D
    where
      after : ℕ → K
      after i = u (suc i)

      D : K
      D = determinant F (suc n) (insert p after (tail A))

      term : ℕ → K
      term = other (suc n) p u (insert p u A)

      second : term p ≡ ⊖ sign F p ⊙ (u 0 ⊙ D)
      second = ap₂ ◌⊙◌ (ap (sign F) (skip_self p)) (ap₂ (λ (c : ℕ → K) d. c 0 ⊙ determinant F (suc n) d) (insert_at p u A) same)
        where
          same : insert (drop p p) after (minor p (insert p u A)) ≡ insert p after (tail A)
          same = ap₂ (λ e M. insert e after M) (drop_self p) (minor_here p u A)

      others : (l : ℕ) → l < n → term (skip p l) ≡ 𝟘
      others l k = zero_term _ _ _ (ap (determinant F (suc n)) (ap₂ (λ e M. insert e after M) (drop_skip p l) (minor_other p l u A)) ∙ zeros l k)
        where
          zero_term : (s c d : K) → d ≡ 𝟘 → s ⊙ (c ⊙ d) ≡ 𝟘
          zero_term s c d e = rw e (simp ring)

      gone : (s u d : K) → s ⊙ (u ⊙ d) ⊕ (⊖ s ⊙ (u ⊙ d) ⊕ 𝟘) ≡ 𝟘
      gone s u d = simp ring

  pub equal_neighbours : (n p : ℕ) (u : ℕ → K) (A : ℕ → ℕ → K) → p ≤ n → determinant F (suc (suc n)) (insert p u (insert p u A)) ≡ 𝟘
  equal_neighbours zero p u A q = neighbours_from zero p u A q (λ l k. absurd (omega arith))
  equal_neighbours (suc n) p u A q =
      neighbours_from (suc n) p u A q (λ l k. equal_neighbours n (drop p l) (λ i. u (suc i)) (minor l A) (drop_below n p l q k))
