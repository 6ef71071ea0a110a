-- Runs of elements by place, and finite sums.
use Rattle.std.specs.Prelude.{ℕ, zero, suc, Bool, true, false, List, [], ◌∷◌}
use Rattle.arithmetic.specs.Fields.{Field}

-- the answer says whether the fact holds
abbrev pub Tells : Bool → Type 0 → Type 0
Tells true P = P
Tells false P = ¬ P

module _ {K : Type 0} (F : Field K) where
  infixl 65 ◌⊕◌
  infixl 70 ◌⊙◌
  open F use {zero as 𝟘, sum as ◌⊕◌, product as ◌⊙◌}

  -- the value at a place of a run, and zero past its end
  abbrev pub row : {X : Type 0} → (X → K) → List X → ℕ → K
  row value [] i = 𝟘
  row value (x ∷ xs) zero = value x
  row value (x ∷ xs) (suc i) = row value xs i

  -- f 0 + .. + f (n - 1)
  abbrev pub total : ℕ → (ℕ → K) → K
  total zero f = 𝟘
  total (suc n) f = total n f ⊕ f n

  -- the sum of products over the first n places
  abbrev pub dot : ℕ → (ℕ → K) → (ℕ → K) → K
  dot n x y = total n (λ k. x k ⊙ y k)
