-- Pivot lists that stay within the height.
use Rattle.std.proofs.Common.{◌≡◌, ℕ, zero, suc, ◌+◌, ◌<◌, true, ltb, List, [], ◌∷◌, length, get_or, drop, arith}
use Rattle.std.proofs.lemmas.Bool.{ltb-true, and_parts}
use Rattle.columns.specs.Panels.{inside_from}

-- each pivot of such a list does
pub inside_holds : (h k : ℕ) (os : List ℕ) → inside_from h k os ≡ true → (j : ℕ) → j < length os → k + j + get_or os j 0 < h
inside_holds h k [] t j l = absurd (omega arith)
inside_holds h k (o ∷ os) t zero l = omega (arith, ltb-true (k + o) h (and_parts _ _ t).0)
inside_holds h k (o ∷ os) t (suc j) l = omega (arith, inside_holds h (suc k) os (and_parts (ltb (k + o) h) _ t).1 j (omega arith))

-- what is left of the list from place k on tells the same as the whole
abbrev pub InsideLeft : ℕ → List ℕ → ℕ → Type 0
InsideLeft h os k = inside_from h k (drop k os) ≡ inside_from h 0 os
