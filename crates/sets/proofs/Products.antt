-- L U, read off the memory.
use Rattle.std.proofs.Common.{◌≡◌, ℕ, ◌+◌, ◌-◌, ◌<◌, ◌≤◌, min, List, sym, ap, ◌∙◌, arith}
use mathlib.Core.Path.{fun_ext}
use native.Mathlib.Decide.{dec_lt}
use Rattle.arithmetic.specs.Fields.{Field, Lawful}
use Rattle.arithmetic.specs.Runs.{total}
use Rattle.columns.specs.Linear.{multiply}
use Rattle.columns.specs.Swaps.{joined}
use Rattle.columns.specs.Factors.{Packed, lower, upper}
use Rattle.columns.proofs.Rings.{zero_by_left, zero_by_right}
use Rattle.columns.proofs.Places.{joined_low, joined_high}
use Rattle.columns.proofs.Sums.{total_zeros}
use Rattle.columns.proofs.Panels.{cells_past}
use Rattle.columns.proofs.Factors.{lower_below, lower_above, upper_out}
use Rattle.sets.specs.Memory.{packed}
use Rattle.sets.proofs.Dots.{total_to}
use Rattle.sets.proofs.Packings.{entry_inside}

module _ {K : Type 0} (F : Field K) (W : Lawful F) (s : Packed K) (j i : ℕ) where
  infixl 70 ◌⊙◌
  open F use {zero as 𝟘, product as ◌⊙◌}

  -- above L's diagonal, or below U's
  no_share : (k : ℕ) → min i j + 1 ≤ k → lower F s k i ⊙ upper F s j k ≡ 𝟘
  no_share k l = go (dec_lt i k)
    where
      go : Dec (i < k) → lower F s k i ⊙ upper F s j k ≡ 𝟘
      go (yes h) = zero_by_left F W (upper F s j k) (lower_above F s k i h)
      go (no h) = zero_by_right F W (lower F s k i) (upper_out F s j k (omega arith))

  -- the columns of L up to row i and up to column j are enough
  pub product_short : (r : ℕ) → j < r → total F (min i j + 1) (λ k. lower F s k i ⊙ upper F s j k) ≡ multiply F r (lower F s) (upper F s) j i
  product_short r l =
      let n = min i j + 1 in
      sym (total_to F W n (r - n) (λ k. lower F s k i ⊙ upper F s j k) no_share) ∙ ap (λ k. multiply F k (lower F s) (upper F s) j i) (omega arith)

module _ {K X : Type 0} (F : Field K) (W : Lawful F) (value : X → K) (m r : ℕ) (memory : List X) (pivots : List ℕ) (fits : r ≤ m) (j : ℕ) where
  LU : ℕ → K
  LU = let s = packed F value m r memory pivots in multiply F r (lower F s) (upper F s) j

  product_past : (i : ℕ) → m ≤ i → LU i ≡ F.zero
  unfolding LU
  product_past i l =
      let s = packed F value m r memory pivots in
      total_zeros F W r _ (λ k o. zero_by_left F W _ (lower_below F s k i (omega arith) ∙ entry_inside F value m r memory pivots k i o ∙ cells_past F value memory m k i l))

  -- all rows; past the height there are zeros
  pub product_all : (n : ℕ) (b : ℕ → K) → m ≤ n → ((i : ℕ) → m ≤ i → b i ≡ F.zero)
      → let s = packed F value m r memory pivots in joined n (multiply F r (lower F s) (upper F s) j) b ≡ multiply F r (lower F s) (upper F s) j
  unfolding LU
  product_all n b le zeros = fun_ext (λ i. go i (dec_lt i n))
    where
      go : (i : ℕ) → Dec (i < n) → joined n LU b i ≡ LU i
      go i (yes l) = joined_low n LU b i l
      go i (no l) = joined_high n LU b i (omega arith) ∙ zeros i (omega arith) ∙ sym (product_past i (omega arith))
