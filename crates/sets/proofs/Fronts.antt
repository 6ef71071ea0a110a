-- Front substitution in place, the first row first.
use Rattle.std.proofs.Common.{◌≡◌, ℕ, zero, suc, ◌+◌, ◌<◌, ◌≤◌, List, sym, refl, ap, ◌∙◌, ap₂, add-one, arith}
use mathlib.Core.Path.{fun_ext}
use native.Mathlib.Decide.{dec_lt}
use Rattle.arithmetic.specs.Fields.{Field}
use Rattle.arithmetic.specs.Runs.{dot}
use Rattle.columns.specs.Swaps.{put, joined}
use Rattle.columns.specs.Factors.{upper, front}
use Rattle.columns.specs.Panels.{cells}
use Rattle.columns.proofs.Places.{put_off, joined_low, joined_high}
use Rattle.columns.proofs.Sums.{total_cong}
use Rattle.columns.proofs.Factors.{upper_in}
use Rattle.sets.specs.Memory.{packed}
use Rattle.sets.specs.Workings.{front_entry}
use Rattle.sets.proofs.Runs.{joined_none}
use Rattle.sets.proofs.Packings.{entry_inside}

module _ {K : Type 0} (F : Field K) where
  infixl 65 ◌⊕◌
  infixl 70 ◌⊙◌
  infix 80 ⊖◌
  open F use {zero as 𝟘, sum as ◌⊕◌, negative as ⊖◌, product as ◌⊙◌, inverse}

  module _ (U : ℕ → ℕ → K) (t : ℕ → K) where
    pub front_none : (y : ℕ → K) → joined 0 y (λ i. 𝟘) ≡ front F U t 0
    unfolding front
    front_none y = sym (joined_none y (λ i. 𝟘))

    pub front_next : (n : ℕ) → put n (front_entry F U t n (front F U t n)) (front F U t n) ≡ front F U t (n + 1)
    unfolding front
    front_next n = ap (front F U t) (sym (add-one n))

  front_zeros : (U : ℕ → ℕ → K) (t : ℕ → K) (n j : ℕ) → n ≤ j → front F U t n j ≡ 𝟘
  unfolding front
  front_zeros U t zero j l = refl
  front_zeros U t (suc n) j l = put_off n _ (front F U t n) j (omega arith) ∙ front_zeros U t n j (omega arith)

  -- only the entries on and above the diagonal count
  pub front_alike : (U V : ℕ → ℕ → K) (t u : ℕ → K) (n : ℕ) → ((j i : ℕ) → i ≤ j → j < n → U j i ≡ V j i) → ((j : ℕ) → j < n → t j ≡ u j) → front F U t n ≡ front F V u n
  unfolding front
  front_alike U V t u zero e d = refl
  front_alike U V t u (suc n) e d =
      let before = front_alike U V t u n (λ j i l q. e j i l (omega arith)) (λ j l. d j (omega arith)) in
      let share : dot F n (front F U t n) (U n) ≡ dot F n (front F V u n) (V n) =
      total_cong F n _ _ (λ i l. ap₂ ◌⊙◌ (ap (λ (x : ℕ → K). x i) before) (e n i (omega arith) (omega arith))) in
      ap₂ (λ a (x : ℕ → K). put n a x)
      (ap₂ ◌⊙◌ (ap₂ (λ a b. a ⊕ ⊖ b) (d n (omega arith)) share) (ap inverse (e n n (omega arith) (omega arith)))) before

  -- nothing stands from row n on
  pub front_alone : (U : ℕ → ℕ → K) (t : ℕ → K) (n : ℕ) → joined n (λ i. 𝟘) (front F U t n) ≡ (λ i. 𝟘)
  front_alone U t n = fun_ext (λ i. go i (dec_lt i n))
    where
      go : (i : ℕ) → Dec (i < n) → joined n (λ i. 𝟘) (front F U t n) i ≡ 𝟘
      go i (yes l) = joined_low n _ (front F U t n) i l
      go i (no l) = joined_high n _ (front F U t n) i (omega arith) ∙ front_zeros U t n i (omega arith)

module _ {K X : Type 0} (F : Field K) (value : X → K) where
  pub front_by_cells : (m r : ℕ) (memory : List X) (pivots : List ℕ) (t : ℕ → K)
      → front F (cells F value m memory) t r ≡ front F (upper F (packed F value m r memory pivots)) t r
  front_by_cells m r memory pivots t =
      let s = packed F value m r memory pivots in
      front_alike F (cells F value m memory) (upper F s) t t r
      (λ j i l q. sym (upper_in F s j i l ∙ entry_inside F value m r memory pivots j i q))
      (λ j l. refl)
