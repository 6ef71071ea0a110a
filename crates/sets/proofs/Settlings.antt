-- Rows settled in place against the columns of L, the last first.
use Rattle.std.proofs.Common.{◌≡◌, ℕ, zero, suc, ◌+◌, ◌-◌, ◌<◌, ◌≤◌, List, sym, refl, ap, ◌∙◌, subst, ap₂, add-one, arith}
use mathlib.Core.Path.{fun_ext}
use native.Mathlib.Decide.{ℕ_discrete, dec_lt}
use Rattle.arithmetic.specs.Fields.{Field, Lawful}
use Rattle.arithmetic.specs.Runs.{dot}
use Rattle.columns.specs.Swaps.{put, joined}
use Rattle.columns.specs.Factors.{lower, settled}
use Rattle.columns.specs.Panels.{cells}
use Rattle.columns.proofs.Rings.{zero_by_left}
use Rattle.columns.proofs.Places.{put_at, put_off, joined_low, joined_high}
use Rattle.columns.proofs.Sums.{total_cong}
use Rattle.columns.proofs.Factors.{lower_below}
use Rattle.sets.specs.Memory.{packed}
use Rattle.sets.proofs.Packings.{entry_inside}

module _ {K : Type 0} (F : Field K) where
  infixl 65 ◌⊕◌
  infix 80 ⊖◌
  open F use {zero as 𝟘, sum as ◌⊕◌, negative as ⊖◌}

  -- only g before row k counts
  pub settled_alike : (L : ℕ → ℕ → K) (m : ℕ) (g h : ℕ → K) (k : ℕ) (z : ℕ → K) → ((i : ℕ) → i < k → g i ≡ h i) → settled F L m g k z ≡ settled F L m h k z
  unfolding settled
  settled_alike L m g h zero z e = refl
  settled_alike L m g h (suc k) z e =
      settled_alike L m g h k _ (λ i l. e i (omega arith))
      ∙ ap (λ a. settled F L m h k (put k (a ⊕ ⊖ dot F m z (L k)) z)) (e k (omega arith))

  -- one row settled among zeros
  put_below : (n : ℕ) (a : K) (y : ℕ → K) → put n a (joined (suc n) (λ i. 𝟘) y) ≡ joined n (λ i. 𝟘) (put n a y)
  put_below n a y = fun_ext (λ i. go i (dec_lt i n) (ℕ_discrete i n))
    where
      z : ℕ → K
      z = joined (suc n) (λ i. 𝟘) y

      go : (i : ℕ) → Dec (i < n) → Dec (i ≡ n) → put n a (joined (suc n) (λ i. 𝟘) y) i ≡ joined n (λ i. 𝟘) (put n a y) i
      go i (yes l) d = put_off n a z i (omega arith) ∙ joined_low (suc n) (λ i. 𝟘) y i (omega arith) ∙ sym (joined_low n (λ i. 𝟘) (put n a y) i l)
      go i (no l) (yes e) = ap (put n a z) e ∙ put_at n a z ∙ sym (joined_high n (λ i. 𝟘) (put n a y) i (omega arith) ∙ ap (put n a y) e ∙ put_at n a y)
      go i (no l) (no e) = put_off n a z i e ∙ joined_high (suc n) (λ i. 𝟘) y i (omega arith) ∙ sym (joined_high n (λ i. 𝟘) (put n a y) i (omega arith) ∙ put_off n a y i e)

  module _ (L : ℕ → ℕ → K) (m : ℕ) (g : ℕ → K) (r : ℕ) where
    -- y holds g in the rows before k, and the others are settled
    pub record Settling (k : ℕ) (y : ℕ → K) : Type 0 where
      pub same : (i : ℕ) → i < k → y i ≡ g i
      pub left : settled F L m g k (joined k (λ i. 𝟘) y) ≡ settled F L m g r (joined r (λ i. 𝟘) g)

    settling_next : (n : ℕ) (y : ℕ → K) (d : K) → d ≡ dot F m (joined (suc n) (λ i. 𝟘) y) (L n) → Settling (suc n) y → Settling n (put n (y n ⊕ ⊖ d) y)
    unfolding settled
    settling_next n y d e s = record {
      same = λ i l. put_off n _ y i (omega arith) ∙ s.same i (omega arith);
      left =
          ap (settled F L m g n) (sym (put_below n (y n ⊕ ⊖ d) y)
          ∙ ap₂ (λ a b. put n (a ⊕ ⊖ b) (joined (suc n) (λ i. 𝟘) y)) (s.same n (omega arith)) e)
          ∙ s.left;
    }

    -- counted down
    pub settling_less : (k : ℕ) (y : ℕ → K) (d : K) → 0 < k → d ≡ dot F m (joined (k - 1 + 1) (λ i. 𝟘) y) (L (k - 1)) → Settling k y
        → Settling (k - 1) (put (k - 1) (y (k - 1) ⊕ ⊖ d) y)
    settling_less k y d l e s =
        let n = k - 1 in
        settling_next n y d (e ∙ ap (λ j. dot F m (joined j (λ i. 𝟘) y) (L n)) (add-one n)) (subst (λ j. Settling j y) (omega arith) s)

    pub settling_all : (k : ℕ) (y : ℕ → K) → k ≡ 0 → Settling k y → y ≡ settled F L m g r (joined r (λ i. 𝟘) g)
    unfolding settled
    settling_all k y e s =
        let t = subst (λ j. Settling j y) e s in
        fun_ext (λ i. sym (joined_high 0 (λ i. 𝟘) y i (omega arith))) ∙ t.left

  -- a run with one entry, from row r on
  module _ (L : ℕ → ℕ → K) (m r p : ℕ) (a : K) (past : r ≤ p) where
    one_entry : ℕ → K
    one_entry = put p a (λ i. 𝟘)

    zeros_before : (i : ℕ) → i < r → one_entry i ≡ 𝟘
    unfolding one_entry
    zeros_before i l = put_off p a (λ i. 𝟘) i (omega arith)

    pub settled_one_entry : settled F L m (put p a (λ i. 𝟘)) r (joined r (λ i. 𝟘) (put p a (λ i. 𝟘))) ≡ settled F L m (λ i. 𝟘) r (put p a (λ i. 𝟘))
    unfolding one_entry
    settled_one_entry =
        settled_alike L m one_entry (λ i. 𝟘) r _ zeros_before
        ∙ ap (settled F L m (λ i. 𝟘) r) (fun_ext (λ i. go i (dec_lt i r)))
      where
        go : (i : ℕ) → Dec (i < r) → joined r (λ i. 𝟘) one_entry i ≡ one_entry i
        go i (yes l) = joined_low r _ one_entry i l ∙ sym (zeros_before i l)
        go i (no l) = joined_high r _ one_entry i (omega arith)

module _ {K X : Type 0} (F : Field K) (W : Lawful F) (value : X → K) where
  -- below its diagonal, L is what is stored
  pub dot_lower : (m r : ℕ) (memory : List X) (pivots : List ℕ) (k : ℕ) (y : ℕ → K) → k < r
      → dot F m (joined (k + 1) (λ i. F.zero) y) (cells F value m memory k) ≡ dot F m (joined (k + 1) (λ i. F.zero) y) (lower F (packed F value m r memory pivots) k)
  dot_lower m r memory pivots k y h = total_cong F m _ _ (λ i l. go i (dec_lt i (k + 1)))
    where
      z : ℕ → K
      z = joined (k + 1) (λ i. F.zero) y

      go : (i : ℕ) → Dec (i < k + 1) → F.product (z i) (cells F value m memory k i) ≡ F.product (z i) (lower F (packed F value m r memory pivots) k i)
      go i (yes l) = let e = joined_low (k + 1) (λ i. F.zero) y i l in zero_by_left F W _ e ∙ sym (zero_by_left F W _ e)
      go i (no l) =
          let s = packed F value m r memory pivots in
          ap (F.product (z i)) (sym (lower_below F s k i (omega arith) ∙ entry_inside F value m r memory pivots k i h))
