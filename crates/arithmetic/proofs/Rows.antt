-- Runs by place.
use Rattle.std.proofs.Common.{◌≡◌, ℕ, zero, suc, ◌<◌, List, [], ◌∷◌, length, get_or, sym, ap, arith}
use Rattle.arithmetic.specs.Fields.{Field}
use Rattle.arithmetic.specs.Runs.{row}

module _ {K X : Type 0} (F : Field K) (value : X → K) where
  -- at a place inside, a run has the value of the element there
  pub row_inside : (xs : List X) (i : ℕ) (x : X) → i < length xs → x ≡ get_or xs i x → row F value xs i ≡ value x
  row_inside [] i x h e = absurd (omega arith)
  row_inside (y ∷ ys) zero x h e = ap value (sym e)
  row_inside (y ∷ ys) (suc i) x h e = row_inside ys i x (omega arith) e
