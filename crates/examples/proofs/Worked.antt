-- The one proof over the worked examples: each holds by computing.
use Rattle.std.proofs.Common.{refl}
use native.Mathlib.Decide.{ℕ_discrete, dec_lt, dec_le}
use Rattle.arithmetic.specs.Modular.{inverse_of}
use Rattle.columns.specs.Swaps.{exchange}
use Rattle.columns.specs.Factors.{lower, upper, left, worked, back, combination, turned, divided, settled, motion}
use Rattle.columns.specs.Determinants.{determinant}
use Rattle.sets.specs.States.{listed, first_then, codes, unknowns_in_rows, picked, value_of, repeated, decided, offered, in_turn, replied, enquired}
use Rattle.examples.specs.Worked.{Worked}

pub all_worked : Worked
unfolding inverse_of dec_lt dec_le ℕ_discrete exchange lower upper left worked back combination turned divided settled motion determinant
    listed first_then codes unknowns_in_rows picked value_of repeated decided offered in_turn replied enquired
all_worked = record {
  inverse_of_two = refl;
  minus_one = refl;
  order = refl;
  greatest_of_three = refl;
  first_of_equals = refl;
  marked_kept_free = refl;
  marked_picked_at_last = refl;
  packed_by_topmost = refl;
  pivots_by_topmost = refl;
  determinant_by_expansion = refl;
  judged_by_parity = refl;
  first_to_third_fixed = refl;
  third_free = refl;
}
