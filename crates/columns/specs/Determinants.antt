-- The determinant, by expansion along the first row, and by packed factors.
use Rattle.std.specs.Prelude.{ℕ, zero, suc, ◌+◌, List, [], ◌∷◌, ◌++◌, length}
use Rattle.std.proofs.Math.Decide.{ℕ_discrete}
use Rattle.arithmetic.specs.Fields.{Field}
use Rattle.arithmetic.specs.Runs.{total}
use Rattle.columns.specs.Swaps.{choose}
use Rattle.columns.specs.Factors.{Packed}

-- the numbers without p: 0, 1, .., p - 1, p + 1, ..
abbrev pub skip : ℕ → ℕ → ℕ
skip zero j = suc j
skip (suc p) zero = zero
skip (suc p) (suc j) = suc (skip p j)

-- without the first row and the column j
abbrev pub minor : {K : Type 0} → ℕ → (ℕ → ℕ → K) → ℕ → ℕ → K
minor j A k i = A (skip j k) (suc i)

-- the exchanges that really change something, of row k with row k + offset k below n
abbrev pub turns : (ℕ → ℕ) → ℕ → List (ℕ × ℕ)
turns offset zero = []
turns offset (suc k) = choose (ℕ_discrete (offset k) 0) (turns offset k) (turns offset k ++ ((k, k + offset k) ∷ []))

module _ {K : Type 0} (F : Field K) where
  infixl 70 ◌⊙◌
  infix 80 ⊖◌
  open F use {one as 𝟙, negative as ⊖◌, product as ◌⊙◌}

  -- one, minus one, one, ..
  abbrev pub sign : ℕ → K
  sign zero = 𝟙
  sign (suc j) = ⊖ sign j

  -- of the first m rows of the first m columns
  unfoldable pub determinant : ℕ → (ℕ → ℕ → K) → K
  determinant zero A = 𝟙
  determinant (suc m) A = total F (suc m) (λ j. sign j ⊙ (A j 0 ⊙ determinant m (minor j A)))

  -- the product of the first n entries of the diagonal
  abbrev pub diagonal_product : ℕ → (ℕ → ℕ → K) → K
  diagonal_product zero A = 𝟙
  diagonal_product (suc n) A = diagonal_product n A ⊙ A n n

  -- the sign of the turns, times the product of U's diagonal
  unfoldable pub factored_determinant : Packed K → K
  factored_determinant s = sign (length (turns s.offset s.rank)) ⊙ diagonal_product s.rank s.entry
