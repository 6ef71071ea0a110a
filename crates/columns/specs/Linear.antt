-- Columns and their combinations. A column is a function of the row: A j i is row i of column j.
use Rattle.std.specs.Prelude.{◌≡◌, ℕ, ◌<◌}
use Rattle.arithmetic.specs.Fields.{Field}
use Rattle.arithmetic.specs.Runs.{total, dot}

-- n different places below k
pub record Selection (k n : ℕ) (place : ℕ → ℕ) : Type 0 where
  pub inside : (j : ℕ) → j < n → place j < k
  pub apart : (i j : ℕ) → i < n → j < n → place i ≡ place j → i ≡ j

module _ {K : Type 0} (F : Field K) where
  infixl 70 ◌⊙◌
  open F use {zero as 𝟘, one as 𝟙, product as ◌⊙◌}

  -- the column that the r columns A j, each times x j, add up to
  abbrev pub combine : ℕ → (ℕ → ℕ → K) → (ℕ → K) → ℕ → K
  combine r A x i = total F r (λ j. A j i ⊙ x j)

  -- the product of A, of r columns, and B
  abbrev pub multiply : ℕ → (ℕ → ℕ → K) → (ℕ → ℕ → K) → ℕ → ℕ → K
  multiply r A B j = combine r A (B j)

  -- b, of height m, is a combination of the r columns A j
  abbrev pub CombinationOf : ℕ → ℕ → (ℕ → ℕ → K) → (ℕ → K) → Type 0
  CombinationOf m r A b = (x : ℕ → K) × ((i : ℕ) → i < m → combine r A x i ≡ b i)

  -- no combination of the r columns of height m is zero but the one with zeros
  abbrev pub Independent : ℕ → ℕ → (ℕ → ℕ → K) → Type 0
  Independent m r A = (x : ℕ → K) → ((i : ℕ) → i < m → combine r A x i ≡ 𝟘) → (j : ℕ) → j < r → x j ≡ 𝟘

  -- some combination is zero, although not all of x is
  abbrev pub Dependent : ℕ → ℕ → (ℕ → ℕ → K) → Type 0
  Dependent m r A = (x : ℕ → K) × (((j : ℕ) × (j < r) × ¬ (x j ≡ 𝟘)) × ((i : ℕ) → i < m → combine r A x i ≡ 𝟘))

  -- a motion w of the m unknowns: under it every column A j rests, and b moves by one
  pub record Motion (m r : ℕ) (A : ℕ → ℕ → K) (b w : ℕ → K) : Type 0 where
    pub rests : (j : ℕ) → j < r → dot F m w (A j) ≡ 𝟘
    pub moves : dot F m w b ≡ 𝟙
