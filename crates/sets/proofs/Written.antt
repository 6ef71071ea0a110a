-- A run whose part from place a on was written.
use Rattle.std.proofs.Common.{◌≡◌, ℕ, ◌+◌, ◌-◌, ◌<◌, ◌≤◌, List, length, take, drop, sym, ap, ◌∙◌, arith}
use borrow.Rule.Slice.PartMut.{put_mid, same_len_mid}
use native.Mathlib.Decide.{dec_lt}
use Rattle.std.proofs.lemmas.Slice.{take-put_mid_below, between-put_mid}
use Rattle.arithmetic.specs.Fields.{Field}
use Rattle.arithmetic.specs.Runs.{row}
use Rattle.columns.proofs.Panels.{row_past}
use Rattle.sets.proofs.Runs.{row_take, row_part}
use Rattle.sets.proofs.Dots.{part_length}

module _ {K X : Type 0} (F : Field K) (value : X → K) (a : ℕ) (xs ys : List X) (le : a ≤ length xs) (same : length ys ≡ length (take (length xs - a) (drop a xs))) where
  abbrev written : List X
  written = put_mid a (length xs - a) xs ys

  long : length ys ≡ length xs - a
  long = same ∙ part_length a (length xs) xs le (omega arith)

  pub before_part : (k : ℕ) → k < a → row F value written k ≡ row F value xs k
  before_part k l =
      sym (row_take F value a written k l) ∙ ap (λ (zs : List X). row F value zs k) (take-put_mid_below a (length xs - a) xs ys a (omega arith) (omega arith)) ∙ row_take F value a xs k l

  pub in_part : (k : ℕ) → row F value written (a + k) ≡ row F value ys k
  in_part k = go (dec_lt k (length xs - a))
    where
      go : Dec (k < length xs - a) → row F value written (a + k) ≡ row F value ys k
      go (yes l) =
          sym (row_part F value a (length xs - a) written k l)
          ∙ ap (λ (zs : List X). row F value zs k) (between-put_mid a (length xs - a) xs ys (length xs) (omega arith) (omega (arith, long)))
      go (no n) =
          row_past F value written (a + k) (omega (arith, same_len_mid a (length xs - a) xs ys same))
          ∙ sym (row_past F value ys k (omega (arith, long)))
