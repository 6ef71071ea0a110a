-- The determinant by columns: linear in each, zero where two are equal, and of other sign when two change places.
use Rattle.std.proofs.Common.{◌≡◌, ℕ, zero, suc, ◌+◌, ◌-◌, ◌<◌, sym, refl, ap, ◌∙◌, ap₂, add-zero, add-suc, arith}
use mathlib.Core.Path.{fun_ext}
use native.Mathlib.Decide.{dec_lt}
use Rattle.arithmetic.specs.Fields.{Field, Lawful}
use Rattle.arithmetic.specs.Runs.{total}
use Rattle.columns.specs.Linear.{combine}
use Rattle.columns.specs.Swaps.{put, exchange}
use Rattle.columns.specs.Determinants.{skip, minor, sign, determinant}
use Rattle.columns.proofs.Rings.{ring, zero_sum, one_product, negative_zero, negative_twice, negative_unique}
use Rattle.columns.proofs.Places.{put_at, put_off, put_same, put_comm}
use Rattle.columns.proofs.Sums.{total_cong}
use Rattle.columns.proofs.Skips.{skip_below, skip_self, insert, insert_self, put_insert}
use Rattle.columns.proofs.Swaps.{exchange_left, exchange_else, put_both}
use Rattle.columns.proofs.Minors.{insert_linear, equal_neighbours}

module _ {K : Type 0} (F : Field K) where
  infixl 70 ◌⊙◌
  open F use {zero as 𝟘, product as ◌⊙◌}

  -- it reads the first n rows of the first n columns
  pub determinant_cong : (n : ℕ) (A B : ℕ → ℕ → K) → ((j i : ℕ) → j < n → i < n → A j i ≡ B j i) → determinant F n A ≡ determinant F n B
  unfolding determinant
  determinant_cong zero A B h = refl
  determinant_cong (suc n) A B h = total_cong F (suc n) _ _ (λ j l. ap₂ (λ c d. sign F j ⊙ (c ⊙ d)) (h j 0 l (omega arith))
      (determinant_cong n (minor j A) (minor j B) (λ k i q o. h (skip j k) (suc i) (skip_below n j k q) (omega arith))))

  -- zero on equal columns at p and q
  abbrev pub Alternates : ℕ → ℕ → ℕ → Type 0
  Alternates n p q = (M : ℕ → ℕ → K) → M p ≡ M q → determinant F n M ≡ 𝟘

module _ {K : Type 0} (F : Field K) (W : Lawful F) where
  infixl 65 ◌⊕◌
  infixl 70 ◌⊙◌
  infix 80 ⊖◌
  open F use {zero as 𝟘, one as 𝟙, sum as ◌⊕◌, negative as ⊖◌, product as ◌⊙◌}

  put_linear : (n p : ℕ) (a : K) (u v : ℕ → K) (M : ℕ → ℕ → K) → p < n
      → determinant F n (put p (λ i. a ⊙ u i ⊕ v i) M) ≡ a ⊙ determinant F n (put p u M) ⊕ determinant F n (put p v M)
  put_linear zero p a u v M l = absurd (omega arith)
  put_linear (suc n) p a u v M l =
      ap (determinant F (suc n)) (put_insert p (λ i. a ⊙ u i ⊕ v i) M)
      ∙ insert_linear F W n p a u v (λ j. M (skip p j)) (omega arith)
      ∙ sym (ap₂ (λ s t. a ⊙ determinant F (suc n) s ⊕ determinant F (suc n) t) (put_insert p u M) (put_insert p v M))

  put_sum : (n p : ℕ) (u v : ℕ → K) (M : ℕ → ℕ → K) → p < n
      → determinant F n (put p (λ i. u i ⊕ v i) M) ≡ determinant F n (put p u M) ⊕ determinant F n (put p v M)
  put_sum n p u v M l =
      ap (λ w. determinant F n (put p w M)) (fun_ext (λ i. ap (λ t. t ⊕ v i) (sym (one_product F W (u i)))))
      ∙ put_linear n p 𝟙 u v M l ∙ ap (λ t. t ⊕ determinant F n (put p v M)) (one_product F W _)

  put_zero : (n p : ℕ) (M : ℕ → ℕ → K) → p < n → determinant F n (put p (λ i. 𝟘) M) ≡ 𝟘
  put_zero n p M l =
      ap (λ w. determinant F n (put p w M)) (fun_ext (λ i. sym (gone 𝟘)))
      ∙ put_linear n p (⊖ 𝟙) (λ i. 𝟘) (λ i. 𝟘) M l ∙ gone (determinant F n (put p (λ i. 𝟘) M))
    where
      gone : (d : K) → ⊖ 𝟙 ⊙ d ⊕ d ≡ 𝟘
      gone d = simp ring

  -- the column is a combination
  pub put_combine : (n k r : ℕ) (M H : ℕ → ℕ → K) (x : ℕ → K) → k < n
      → determinant F n (put k (combine F r M x) H) ≡ total F r (λ j. x j ⊙ determinant F n (put k (M j) H))
  put_combine n k zero M H x l = put_zero n k H l
  put_combine n k (suc r) M H x l =
      ap (λ c. determinant F n (put k c H)) (fun_ext turned)
      ∙ put_linear n k (x r) (M r) (combine F r M x) H l
      ∙ W.sum_comm _ _
      ∙ ap (λ t. t ⊕ x r ⊙ determinant F n (put k (M r) H)) (put_combine n k r M H x l)
    where
      turned : (i : ℕ) → combine F (suc r) M x i ≡ x r ⊙ M r i ⊕ combine F r M x i
      turned i = W.sum_comm (combine F r M x i) (M r i ⊙ x r) ∙ ap (λ t. t ⊕ combine F r M x i) (W.product_comm (M r i) (x r))

  -- where the determinant is zero on equal columns at p and q, an exchange of the two turns its sign
  module _ (n p q : ℕ) (l : p < n) (k : q < n) (h : ¬ (p ≡ q)) (alternates : Alternates F n p q) (M : ℕ → ℕ → K) where
    both : (ℕ → K) → (ℕ → K) → K
    both u v = determinant F n (put p u (put q v M))

    both_left : (u v w : ℕ → K) → both (λ i. u i ⊕ v i) w ≡ both u w ⊕ both v w
    unfolding both
    both_left u v w = put_sum n p u v (put q w M) l

    both_right : (u v w : ℕ → K) → both u (λ i. v i ⊕ w i) ≡ both u v ⊕ both u w
    unfolding both
    both_right u v w =
        ap (determinant F n) (put_comm p q u (λ i. v i ⊕ w i) M h) ∙ put_sum n q v w (put p u M) k
        ∙ sym (ap₂ (λ s t. determinant F n s ⊕ determinant F n t) (put_comm p q u v M h) (put_comm p q u w M h))

    both_same : (u : ℕ → K) → both u u ≡ 𝟘
    unfolding both
    both_same u = alternates (put p u (put q u M))
        (put_at p u (put q u M) ∙ sym (put_off p u (put q u M) q (λ e. h (sym e)) ∙ put_at q u M))

    both_turned : (u v : ℕ → K) → both u v ⊕ both v u ≡ 𝟘
    both_turned u v =
        ap₂ ◌⊕◌ (sym (ap (λ t. t ⊕ both u v) (both_same u) ∙ zero_sum F W (both u v))) (sym (ap (λ t. both v u ⊕ t) (both_same v) ∙ W.sum_zero (both v u)))
        ∙ ap₂ ◌⊕◌ (sym (both_right u u v)) (sym (both_right v u v))
        ∙ sym (both_left u v (λ i. u i ⊕ v i))
        ∙ both_same (λ i. u i ⊕ v i)

    exchange_turns : determinant F n (λ j. M (exchange p q j)) ≡ ⊖ determinant F n M
    unfolding both
    exchange_turns =
        ap (determinant F n) (sym (put_both p q M))
        ∙ negative_unique F W (both (M p) (M q)) (both (M q) (M p)) (both_turned (M p) (M q))
        ∙ ap (λ t. ⊖ determinant F n t) (ap (put p (M p)) (put_same q M) ∙ put_same p M)

  neighbours_alternate : (n p : ℕ) → suc p < n → Alternates F n p (suc p)
  neighbours_alternate zero p l M e = absurd (omega arith)
  neighbours_alternate (suc zero) p l M e = absurd (omega arith)
  neighbours_alternate (suc (suc n)) p l M e = ap (determinant F (suc (suc n))) two_equal ∙ equal_neighbours F W n p (M p) others (omega arith)
    where
      others : ℕ → ℕ → K
      others j = M (skip p (skip p j))

      next : (λ j. M (skip p j)) ≡ insert p (M p) others
      next = sym (fun_ext (insert_self p (λ j. M (skip p j)))) ∙ ap (λ c. insert p c others) (ap M (skip_self p) ∙ sym e)

      two_equal : M ≡ insert p (M p) (insert p (M p) others)
      two_equal = sym (fun_ext (insert_self p M)) ∙ ap (insert p (M p)) next

  -- columns further apart become neighbours, one exchange after another
  later_alternates : (n p d : ℕ) → suc (p + d) < n → Alternates F n p (suc (p + d))
  later_alternates n p zero l M e = neighbours_alternate n p (rw (← add-zero p) l) M (e ∙ ap (λ k. M (suc k)) (add-zero p))
  later_alternates n p (suc d) l M e =
      sym (negative_twice F W (determinant F n M)) ∙ ap (λ t. ⊖ t) (sym turned ∙ later_alternates n p d (omega arith) N nearer) ∙ negative_zero F W
    where
      q : ℕ
      q = suc (p + d)

      N : ℕ → ℕ → K
      N j = M (exchange q (suc q) j)

      turned : determinant F n N ≡ ⊖ determinant F n M
      turned = exchange_turns n q (suc q) (omega arith) (omega arith) (omega arith) (neighbours_alternate n q (omega arith)) M

      nearer : N p ≡ N q
      nearer =
          ap M (exchange_else q (suc q) p (omega arith) (omega arith))
          ∙ e ∙ ap (λ k. M (suc k)) (add-suc p d) ∙ sym (ap M (exchange_left q (suc q) q refl))

  pub alternates : (n p q : ℕ) → p < n → q < n → ¬ (p ≡ q) → Alternates F n p q
  alternates n p q l k h M e = go (dec_lt p q)
    where
      go : Dec (p < q) → determinant F n M ≡ 𝟘
      go (yes o) = let f : suc (p + (q - suc p)) ≡ q = omega arith in later_alternates n p (q - suc p) (omega arith) M (e ∙ ap M (sym f))
      go (no o) = let f : suc (q + (p - suc q)) ≡ p = omega arith in later_alternates n q (p - suc q) (omega arith) M (sym e ∙ ap M (sym f))

  pub determinant_exchange : (n p q : ℕ) (M : ℕ → ℕ → K) → p < n → q < n → ¬ (p ≡ q) → determinant F n (λ j. M (exchange p q j)) ≡ ⊖ determinant F n M
  determinant_exchange n p q M l k h = exchange_turns n p q l k h (alternates n p q l k h) M
