-- The signed product of a diagonal, pivot after pivot.
use Rattle.std.proofs.Common.{◌≡◌, ℕ, suc, ◌+◌, cond, eqb, length, sym, ap, ◌∙◌, add-one, arith}
use native.Mathlib.Decide.{ℕ_discrete}
use Rattle.std.proofs.lemmas.List.{length-append}
use Rattle.std.proofs.lemmas.Bool.{eq-eqb, ne_eqb}
use Rattle.arithmetic.specs.Fields.{Field, Lawful}
use Rattle.columns.specs.Determinants.{sign, turns, diagonal_product}
use Rattle.columns.proofs.Places.{choose_yes, choose_no}
use Rattle.columns.proofs.Rings.{negative_in_product}

module _ {K : Type 0} (F : Field K) (W : Lawful F) (offset : ℕ → ℕ) (A : ℕ → ℕ → K) where
  infixl 70 ◌⊙◌
  infix 80 ⊖◌
  open F use {negative as ⊖◌, product as ◌⊙◌}

  unfoldable pub signed : ℕ → K
  signed k = sign F (length (turns offset k)) ⊙ diagonal_product F k A

  -- one pivot more: its sign is turned unless its offset is 0
  pub signed_next : (k : ℕ) → cond (eqb (offset k) 0) (signed k) (⊖ signed k) ⊙ A k k ≡ signed (k + 1)
  unfolding signed
  signed_next k = by_offset (ℕ_discrete (offset k) 0) ∙ ap signed (sym (add-one k))
    where
      by_offset : Dec (offset k ≡ 0) → cond (eqb (offset k) 0) (signed k) (⊖ signed k) ⊙ A k k ≡ signed (suc k)
      by_offset (yes e) =
          let same : length (turns offset (suc k)) ≡ length (turns offset k) = ap length (choose_yes (ℕ_discrete (offset k) 0) _ _ e) in
          ap (λ b. cond b (signed k) (⊖ signed k) ⊙ A k k) (eq-eqb (offset k) 0 e)
          ∙ W.product_assoc _ _ _
          ∙ ap (λ n. sign F n ⊙ diagonal_product F (suc k) A) (sym same)
      by_offset (no n) =
          let more : length (turns offset (suc k)) ≡ suc (length (turns offset k)) =
          ap length (choose_no (ℕ_discrete (offset k) 0) _ _ n) ∙ length-append (turns offset k) _ ∙ omega arith in
          ap (λ b. cond b (signed k) (⊖ signed k) ⊙ A k k) (ne_eqb (offset k) 0 n)
          ∙ ap (λ x. x ⊙ A k k) (sym (negative_in_product F W _ _))
          ∙ W.product_assoc _ _ _
          ∙ ap (λ n. sign F n ⊙ diagonal_product F (suc k) A) (sym more)
