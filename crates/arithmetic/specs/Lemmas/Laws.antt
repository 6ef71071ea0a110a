-- What follows from the laws, in any field.
use Rattle.std.specs.Prelude.{◌≡◌, zero, suc, Bool, true, false, ℤ, pos, negsuc, ◌+ℤ◌, ◌==◌, refl}
use Rattle.std.proofs.Common.{sym, ap, ◌∙◌, eqb-true}
use Rattle.std.proofs.Math.IntN.{suc_ℤ, pred_ℤ, suc-pred, +ℤ_one, +ℤ-suc_ℤ, +ℤ-pred_ℤ, +ℤ_idr}
use Rattle.std.proofs.lemmas.Bool.{eqb-false}
use Rattle.arithmetic.specs.Fields.{Field, Lawful, SettledByCodes, AllZero}
use Rattle.arithmetic.specs.Runs.{Tells}

-- an answer tells a fact where each of its two values does
tells_by : (b : Bool) (P : Type 0) → (b ≡ true → P) → (b ≡ false → ¬ P) → Tells b P
tells_by true P y n = y refl
tells_by false P y n = n refl

module _ {K : Type 0} (F : Field K) (W : Lawful F) where
  infixl 65 ◌⊕◌
  infixl 70 ◌⊙◌
  infix 80 ⊖◌
  open F use {zero as 𝟘, one as 𝟙, sum as ◌⊕◌, negative as ⊖◌, product as ◌⊙◌, inverse, bring, code}

  pub settled_by_codes : SettledByCodes F
  settled_by_codes = record {
    sums = λ a b x y e d. let p = W.code_same a b e in let q = W.code_same x y d in cc;
    negatives = λ a b e. let p = W.code_same a b e in cc;
    products = λ a b x y e d. let p = W.code_same a b e in let q = W.code_same x y d in cc;
    inverses = λ a b e. let p = W.code_same a b e in cc;
  }

  pub not_all_zero : ¬ AllZero F
  not_all_zero all = W.apart (sym (all 𝟙))

  -- a comparison of codes tells whether values are equal
  pub codes_tell : (x y : K) → Tells (code x == code y) (x ≡ y)
  codes_tell x y = tells_by (code x == code y) (x ≡ y) (λ t. W.code_same x y (eqb-true _ _ t)) (λ f e. eqb-false _ _ f (ap code e))

  pub zero_sum : (x : K) → 𝟘 ⊕ x ≡ x
  zero_sum x = W.sum_comm 𝟘 x ∙ W.sum_zero x

  pub one_product : (x : K) → 𝟙 ⊙ x ≡ x
  one_product x = W.product_comm 𝟙 x ∙ W.product_one x

  -- what was added can be left out
  pub sum_cancel : (x y z : K) → x ⊕ z ≡ y ⊕ z → x ≡ y
  sum_cancel x y z e = sym (back x) ∙ ap (λ u. u ⊕ ⊖ z) e ∙ back y
    where
      back : (u : K) → (u ⊕ z) ⊕ ⊖ z ≡ u
      back u = W.sum_assoc u z (⊖ z) ∙ ap (λ v. u ⊕ v) (W.sum_negative z) ∙ W.sum_zero u

  pub inverse_unique : (x y : K) → ¬ (x ≡ 𝟘) → x ⊙ y ≡ 𝟙 → y ≡ inverse x
  inverse_unique x y n e =
      sym (one_product y)
      ∙ ap (λ u. u ⊙ y) (sym (W.product_inverse x n) ∙ W.product_comm x (inverse x))
      ∙ W.product_assoc (inverse x) x y
      ∙ ap (λ u. inverse x ⊙ u) e
      ∙ W.product_one (inverse x)

  bring_suc : (n : ℤ) → bring (suc_ℤ n) ≡ bring n ⊕ 𝟙
  bring_suc n = ap bring (sym (+ℤ_one n)) ∙ W.bring_next n

  bring_pred : (n : ℤ) → bring (pred_ℤ n) ⊕ 𝟙 ≡ bring n
  bring_pred n = sym (bring_suc (pred_ℤ n)) ∙ ap bring (suc-pred n)

  module _ (m : ℤ) where
    -- what holds of a sum with n holds of one with n + 1, and of one with n - 1
    up : (n : ℤ) → bring (m +ℤ n) ≡ bring m ⊕ bring n → bring (m +ℤ suc_ℤ n) ≡ bring m ⊕ bring (suc_ℤ n)
    up n e =
        ap bring (+ℤ-suc_ℤ m n)
        ∙ bring_suc (m +ℤ n)
        ∙ ap (λ u. u ⊕ 𝟙) e
        ∙ W.sum_assoc (bring m) (bring n) 𝟙
        ∙ ap (λ u. bring m ⊕ u) (sym (bring_suc n))

    down : (n : ℤ) → bring (m +ℤ n) ≡ bring m ⊕ bring n → bring (m +ℤ pred_ℤ n) ≡ bring m ⊕ bring (pred_ℤ n)
    down n e =
        sum_cancel _ _ 𝟙
        (ap (λ k. bring k ⊕ 𝟙) (+ℤ-pred_ℤ m n)
        ∙ bring_pred (m +ℤ n)
        ∙ e
        ∙ ap (λ u. bring m ⊕ u) (sym (bring_pred n))
        ∙ sym (W.sum_assoc (bring m) (bring (pred_ℤ n)) 𝟙))

    bring_none : bring (m +ℤ pos 0) ≡ bring m ⊕ bring (pos 0)
    bring_none = ap bring (+ℤ_idr m) ∙ sym (W.sum_zero (bring m)) ∙ ap (λ u. bring m ⊕ u) (sym W.bring_zero)

    -- a sum of whole numbers is brought in as the sum of what they are brought in as
    pub bring_sum : (n : ℤ) → bring (m +ℤ n) ≡ bring m ⊕ bring n
    bring_sum (pos zero) = bring_none
    bring_sum (pos (suc n)) = up (pos n) (bring_sum (pos n))
    bring_sum (negsuc zero) = down (pos 0) bring_none
    bring_sum (negsuc (suc n)) = down (negsuc n) (bring_sum (negsuc n))
