-- Back substitution in place, the last row first.
use Rattle.std.proofs.Common.{◌≡◌, ℕ, zero, suc, ◌-◌, ◌<◌, ◌≤◌, List, sym, refl, ap, ◌∙◌, ap₂, arith}
use mathlib.Core.Path.{fun_ext}
use native.Mathlib.Decide.{ℕ_discrete, dec_lt}
use Rattle.arithmetic.specs.Fields.{Field}
use Rattle.columns.specs.Swaps.{put, joined}
use Rattle.columns.specs.Factors.{upper, back, combination}
use Rattle.columns.specs.Panels.{cells}
use Rattle.columns.proofs.Places.{put_at, put_off, joined_low, joined_high}
use Rattle.columns.proofs.Eliminations.{back_zeros, back_cong}
use Rattle.columns.proofs.Factors.{upper_in}
use Rattle.sets.specs.Memory.{packed}
use Rattle.sets.specs.Workings.{less_share, back_step}
use Rattle.sets.proofs.Packings.{entry_inside}

module _ {K : Type 0} (F : Field K) where
  infixl 65 ◌⊕◌
  infixl 70 ◌⊙◌
  infix 80 ⊖◌
  open F use {zero as 𝟘, sum as ◌⊕◌, negative as ⊖◌, product as ◌⊙◌, inverse}

  -- only the entries on and above the diagonal count
  pub back_alike : (U V : ℕ → ℕ → K) (r : ℕ) (y : ℕ → K) → ((j i : ℕ) → i ≤ j → j < r → U j i ≡ V j i) → back F U r y ≡ back F V r y
  unfolding back
  back_alike U V zero y e = refl
  back_alike U V (suc r) y e =
      let last = ap (λ a. inverse a ⊙ y r) (e r r (omega arith) (omega arith)) in
      ap₂ (λ a (x : ℕ → K). put r a x) last
      (back_alike U V r _ (λ j i l q. e j i l (omega arith))
      ∙ back_cong F V r _ _ (λ i l. ap₂ (λ a x. y i ⊕ ⊖ (a ⊙ x)) (e r i (omega arith) (omega arith)) last))

  module _ (U : ℕ → ℕ → K) where
    -- rows before k still to be solved for, in y; the others are done
    abbrev pub Backed : ℕ → (ℕ → K) → ℕ → K
    Backed k y = joined k (back F U k y) y

    pub backed_none : (r : ℕ) (y : ℕ → K) → ((i : ℕ) → r ≤ i → y i ≡ 𝟘) → Backed r y ≡ back F U r y
    backed_none r y zeros = fun_ext (λ i. go i (dec_lt i r))
      where
        go : (i : ℕ) → Dec (i < r) → Backed r y i ≡ back F U r y i
        go i (yes l) = joined_low r (back F U r y) y i l
        go i (no n) = joined_high r (back F U r y) y i (omega arith) ∙ zeros i (omega arith) ∙ sym (back_zeros F U r y i (omega arith))

    pub backed_next : (n : ℕ) (y : ℕ → K) → Backed n (back_step F U n y) ≡ Backed (suc n) y
    unfolding back back_step
    backed_next n y = fun_ext (λ i. go i (dec_lt i n) (ℕ_discrete i n))
      where
        x : K
        x = inverse (U n n) ⊙ y n

        rest : ℕ → K
        rest = less_share F U n x y

        z : ℕ → K
        z = put n x (joined n rest y)

        before : (i : ℕ) → i < n → z i ≡ rest i
        before i l = put_off n x (joined n rest y) i (omega arith) ∙ joined_low n rest y i l

        go : (i : ℕ) → Dec (i < n) → Dec (i ≡ n) → Backed n (back_step F U n y) i ≡ Backed (suc n) y i
        go i (yes l) d =
            joined_low n (back F U n z) z i l ∙ ap (λ (c : ℕ → K). c i) (back_cong F U n z rest before)
            ∙ sym (joined_low (suc n) (back F U (suc n) y) y i (omega arith) ∙ put_off n x (back F U n rest) i (omega arith))
        go i (no o) (yes e) =
            joined_high n (back F U n z) z i (omega arith) ∙ ap z e ∙ put_at n x (joined n rest y)
            ∙ sym (joined_low (suc n) (back F U (suc n) y) y i (omega arith) ∙ ap (put n x (back F U n rest)) e ∙ put_at n x (back F U n rest))
        go i (no o) (no e) =
            joined_high n (back F U n z) z i (omega arith) ∙ put_off n x (joined n rest y) i e ∙ joined_high n rest y i (omega arith)
            ∙ sym (joined_high (suc n) (back F U (suc n) y) y i (omega arith))

    -- the same, counted down
    pub backed_less : (k : ℕ) (y : ℕ → K) → 0 < k → Backed (k - 1) (back_step F U (k - 1) y) ≡ Backed k y
    backed_less k y l = backed_next (k - 1) y ∙ ap (λ n. Backed n y) (omega arith)

    pub backed_all : (k : ℕ) (y : ℕ → K) → k ≡ 0 → Backed k y ≡ y
    backed_all k y e = fun_ext (λ i. joined_high k (back F U k y) y i (omega arith))

    -- rows from r on do not count
    pub back_cleared : (r : ℕ) (y : ℕ → K) → back F U r (joined r y (λ i. 𝟘)) ≡ back F U r y
    back_cleared r y = back_cong F U r _ y (λ j l. joined_low r y (λ i. 𝟘) j l)

module _ {K X : Type 0} (F : Field K) (value : X → K) where
  pub combination_by_cells : (m r : ℕ) (memory : List X) (pivots : List ℕ) (w : ℕ → K)
      → combination F (packed F value m r memory pivots) w ≡ back F (cells F value m memory) r w
  unfolding combination packed
  combination_by_cells m r memory pivots w =
      let s = packed F value m r memory pivots in
      back_alike F (upper F s) (cells F value m memory) r w (λ j i l q. upper_in F s j i l ∙ entry_inside F value m r memory pivots j i q)
