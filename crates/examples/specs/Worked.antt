-- Worked examples: what the definitions give at these numbers.
use Rattle.std.specs.Prelude.{◌≡◌, Bool, true, false, List, [], ◌∷◌, map, replicate, pos, negsuc, Some, slice_index_or, slice_set}
use Rattle.arithmetic.specs.Elements.{residues, parities}
use Rattle.columns.specs.Picks.{topmost, greatest, keep_free}
use Rattle.columns.specs.Determinants.{determinant}
use Rattle.sets.specs.States.{listed, enquired}
use Rattle.sets.specs.declared.verdict.Verdict.TheVariants.{Taken, Redundant}
use Rattle.sets.specs.declared.reply.Reply.TheVariants.{Fixed, Free}
use Rattle.examples.specs.Schemes.{three_columns, at_zero, two_lengths, column, judged, codes_of, verdict_in_code, reply_in_codes}
open residues.ops use {code, inverse, bring}

-- of 96 unknowns, only unknown 0 is marked
abbrev pub first_marked : List Bool
first_marked = slice_set (replicate 96 false) 0 true

pub record Worked : Type 0 where
  pub inverse_of_two : code (inverse (bring (pos 2))) ≡ 32740
  pub minus_one : code (bring (negsuc 0)) ≡ 65478
  pub order : code (bring (pos 65479)) ≡ 0
  pub greatest_of_three : greatest (3 ∷ (65476 ∷ (6 ∷ []))) (0 ∷ (1 ∷ (2 ∷ []))) ≡ Some 1
  pub first_of_equals : greatest (4 ∷ (4 ∷ [])) (0 ∷ (1 ∷ [])) ≡ Some 0
  pub marked_kept_free : keep_free topmost first_marked (7 ∷ (0 ∷ (2 ∷ []))) (0 ∷ (1 ∷ (2 ∷ []))) ≡ Some 2
  pub marked_picked_at_last : keep_free topmost first_marked (7 ∷ (0 ∷ (0 ∷ []))) (0 ∷ (1 ∷ (2 ∷ []))) ≡ Some 0
  -- the columns (3, -3, 6), (-1, 3, 0), (2, -1, 4)
  pub packed_by_topmost : listed 3 (λ j. codes_of residues.ops ((judged residues.ops (at_zero three_columns)).1.factors.entry j))
      ≡ (3 ∷ (65478 ∷ (2 ∷ []))) ∷ ((65478 ∷ (2 ∷ (1 ∷ []))) ∷ ((2 ∷ (1 ∷ (65478 ∷ []))) ∷ []))
  pub pivots_by_topmost : listed 3 (judged residues.ops (at_zero three_columns)).1.factors.offset ≡ 0 ∷ (0 ∷ (0 ∷ []))
  pub determinant_by_expansion : code (determinant residues.ops 3 (λ j. column residues.ops (slice_index_or three_columns j []))) ≡ 65473
  pub judged_by_parity : map (verdict_in_code parities.ops) (judged parities.ops (at_zero three_columns)).0 ≡ Taken 0 ∷ (Redundant ∷ (Taken 1 ∷ []))
  -- with two lengths of three faces held
  pub first_to_third_fixed : reply_in_codes residues.ops (enquired residues.ops (judged residues.ops two_lengths).1 (column residues.ops (pos 1 ∷ (pos 0 ∷ (negsuc 0 ∷ [])))))
      ≡ (Fixed 65439, 1 ∷ (1 ∷ (0 ∷ [])))
  pub third_free : reply_in_codes residues.ops (enquired residues.ops (judged residues.ops two_lengths).1 (column residues.ops (pos 0 ∷ (pos 0 ∷ (pos 1 ∷ [])))))
      ≡ (Free, 1 ∷ (1 ∷ (1 ∷ [])))
