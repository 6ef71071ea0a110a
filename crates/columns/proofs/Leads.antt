-- The first place where a column is not zero.
use Rattle.std.proofs.Common.{◌≡◌, ℕ, zero, suc, ◌<◌, ◌⊎◌, Some, None, Option, ap, inl, inr, arith, MatchOption}
use Rattle.std.specs.Option.{option_or}
use native.Mathlib.Decide.{ℕ_discrete}
use Rattle.arithmetic.specs.Fields.{Field, Lawful}
use Rattle.columns.specs.Swaps.{choose}
use Rattle.columns.specs.Factors.{lead}
use Rattle.columns.proofs.Places.{below_next}

module _ {K : Type 0} (F : Field K) where
  open F use {zero as 𝟘}

  abbrev pub Zeros : ℕ → (ℕ → K) → Type 0
  Zeros n f = (i : ℕ) → i < n → f i ≡ 𝟘

  abbrev pub First : ℕ → (ℕ → K) → ℕ → Type 0
  First n f i = (i < n) × ¬ (f i ≡ 𝟘) × Zeros i f

module _ {K : Type 0} (F : Field K) (W : Lawful F) where
  open F use {zero as 𝟘, code}

  pub lead_finds : (n : ℕ) (f : ℕ → K) → MatchOption (lead F n f) (Zeros F n f) (First F n f)
  lead_finds zero f = λ i l. absurd (omega arith)
  lead_finds (suc n) f = go (lead F n f) (lead_finds n f) (ℕ_discrete (code (f n)) (code 𝟘))
    where
      go : (o : Option ℕ) → MatchOption o (Zeros F n f) (First F n f) → (d : Dec (code (f n) ≡ code 𝟘))
          → MatchOption (option_or o (choose d None (Some n))) (Zeros F (suc n) f) (First F (suc n) f)
      go None h (yes z) = below_next (λ i. f i ≡ 𝟘) n h (W.code_same (f n) 𝟘 z)
      go None h (no z) = (omega arith, λ e. z (ap code e), h)
      go (Some i) (l, h, before) d = (omega arith, h, before)

  pub nonzero_or_zeros : (n : ℕ) (f : ℕ → K) → ((i : ℕ) × (i < n) × ¬ (f i ≡ 𝟘)) ⊎ Zeros F n f
  nonzero_or_zeros n f = go (lead F n f) (lead_finds n f)
    where
      go : (o : Option ℕ) → MatchOption o (Zeros F n f) (First F n f) → ((i : ℕ) × (i < n) × ¬ (f i ≡ 𝟘)) ⊎ Zeros F n f
      go None zeros = inr zeros
      go (Some i) (l, h, before) = inl (i, l, h)
