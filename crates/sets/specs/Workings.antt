-- One turn of a working, as a function of the row.
use Rattle.std.specs.Prelude.{ℕ, ◌+◌}
use Rattle.std.proofs.Math.Decide.{dec_lt}
use Rattle.arithmetic.specs.Fields.{Field}
use Rattle.arithmetic.specs.Runs.{dot}
use Rattle.columns.specs.Swaps.{choose, put, joined, exchange}
use Rattle.columns.specs.Factors.{Packed}

module _ {K : Type 0} (F : Field K) where
  infixl 65 ◌⊕◌
  infixl 70 ◌⊙◌
  infix 80 ⊖◌
  open F use {sum as ◌⊕◌, negative as ⊖◌, product as ◌⊙◌, inverse}

  -- y less x times column n
  abbrev pub less_share : (ℕ → ℕ → K) → ℕ → K → (ℕ → K) → ℕ → K
  less_share U n x y i = y i ⊕ ⊖ (U n i ⊙ x)

  -- row n divided by U's diagonal, and the rows before it less their share of that
  unfoldable pub back_step : (ℕ → ℕ → K) → ℕ → (ℕ → K) → ℕ → K
  back_step U n y = let x = inverse (U n n) ⊙ y n in put n x (joined n (less_share U n x y) y)

  -- row n of g, from the rows before it, so that g times column n of U is t n
  abbrev pub front_entry : (ℕ → ℕ → K) → (ℕ → K) → ℕ → (ℕ → K) → K
  front_entry U t n g = (t n ⊕ ⊖ dot F n g (U n)) ⊙ inverse (U n n)

  -- x, worked by the columns before column r, worked by column r of s too: its rows exchanged, and that column's share taken
  unfoldable pub stepped : Packed K → ℕ → (ℕ → K) → ℕ → K
  stepped s r x i =
      let y = λ (j : ℕ). x (exchange r (r + s.offset r) j) in
      choose (dec_lt r i) (y i ⊕ ⊖ (s.entry r i ⊙ y r)) (y i)

  -- the rows of x after row r divided by row r
  unfoldable pub divided_below : ℕ → (ℕ → K) → ℕ → K
  divided_below r x i = choose (dec_lt r i) (x i ⊙ inverse (x r)) (x i)
