-- The first place that is not zero, looked for place by place.
use Rattle.std.proofs.Common.{◌≡◌, ℕ, zero, suc, ◌+◌, ◌<◌, Some, None, sym, ap, ◌∙◌, add-one, arith}
use Rattle.std.specs.Option.{option_or}
use native.Mathlib.Decide.{ℕ_discrete}
use Rattle.arithmetic.specs.Fields.{Field, Lawful}
use Rattle.columns.specs.Swaps.{choose}
use Rattle.columns.specs.Factors.{lead}
use Rattle.columns.proofs.Places.{choose_yes, choose_no}

module _ {K : Type 0} (F : Field K) (W : Lawful F) (f : ℕ → K) where
  open F use {zero as 𝟘, code}

  -- by place n, where none before it will do
  lead_here : (n : ℕ) → lead F n f ≡ None → lead F (suc n) f ≡ choose (ℕ_discrete (code (f n)) (code 𝟘)) None (Some n)
  lead_here n none = ap (λ o. option_or o (choose (ℕ_discrete (code (f n)) (code 𝟘)) None (Some n))) none

  -- what is found stays
  lead_stays : (n m : ℕ) → n < m → lead F (suc n) f ≡ Some n → lead F m f ≡ Some n
  lead_stays n zero l e = absurd (omega arith)
  lead_stays n (suc m) l e = go (ℕ_discrete n m) (lead_stays n m)
    where
      go : Dec (n ≡ m) → (n < m → lead F (suc n) f ≡ Some n → lead F m f ≡ Some n) → lead F (suc m) f ≡ Some n
      go (yes d) more = ap (λ k. lead F (suc k) f) (sym d) ∙ e
      go (no d) more = ap (λ o. option_or o (choose (ℕ_discrete (code (f m)) (code 𝟘)) None (Some m))) (more (omega arith) e)

  pub lead_next : (n : ℕ) → lead F n f ≡ None → f n ≡ 𝟘 → lead F (n + 1) f ≡ None
  lead_next n none e = ap (λ k. lead F k f) (add-one n) ∙ lead_here n none ∙ choose_yes (ℕ_discrete (code (f n)) (code 𝟘)) None (Some n) (ap code e)

  pub lead_found : (n m : ℕ) → n < m → lead F n f ≡ None → ¬ (f n ≡ 𝟘) → lead F m f ≡ Some n
  lead_found n m l none h =
      lead_stays n m l (lead_here n none ∙ choose_no (ℕ_discrete (code (f n)) (code 𝟘)) None (Some n) (λ e. h (W.code_same (f n) 𝟘 e)))
