-- Small schemes of three unknowns, given as whole numbers.
use Rattle.std.specs.Prelude.{ℕ, List, [], ◌∷◌, map, ℤ, pos, negsuc}
use Rattle.arithmetic.specs.Fields.{Field}
use Rattle.arithmetic.specs.Runs.{row}
use Rattle.columns.specs.Picks.{topmost}
use Rattle.sets.specs.States.{State, Verdict as Judged, Reply as Replied, listed, made, in_turn}
use Rattle.sets.specs.States.Verdict.{taken, redundant, clash}
use Rattle.sets.specs.States.Reply.{fixed, free}
use Rattle.sets.specs.declared.verdict.Verdict.{Verdict}
use Rattle.sets.specs.declared.verdict.Verdict.TheVariants.{Taken, Redundant, Clash}
use Rattle.sets.specs.declared.reply.Reply.{Reply}
use Rattle.sets.specs.declared.reply.Reply.TheVariants.{Fixed, Free}

-- a column's coefficients and its target
abbrev pub Dimension : Type 0
Dimension = List ℤ × ℤ

abbrev pub three_columns : List (List ℤ)
three_columns = (pos 3 ∷ (negsuc 2 ∷ (pos 6 ∷ []))) ∷ ((negsuc 0 ∷ (pos 3 ∷ (pos 0 ∷ []))) ∷ ((pos 2 ∷ (negsuc 0 ∷ (pos 4 ∷ []))) ∷ []))

-- the same, at target 0
abbrev pub at_zero : List (List ℤ) → List Dimension
at_zero = map (λ b. (b, pos 0))

-- from the first face to the second -25, from the second to the third -15
abbrev pub two_lengths : List Dimension
two_lengths = ((pos 1 ∷ (negsuc 0 ∷ (pos 0 ∷ []))), negsuc 24) ∷ (((pos 0 ∷ (pos 1 ∷ (negsuc 0 ∷ []))), negsuc 14) ∷ [])

module _ {K : Type 0} (F : Field K) where
  abbrev pub column : List ℤ → ℕ → K
  column = row F F.bring

  -- judged one after another on a new set, with topmost
  abbrev pub judged : List Dimension → List (Judged K) × State K
  judged ds = in_turn F topmost (made F 3) (map (λ d. (column d.0, F.bring d.1)) ds)

  abbrev pub codes_of : (ℕ → K) → List ℕ
  codes_of b = listed 3 (λ i. F.code (b i))

  -- a verdict, with its value's code
  abbrev pub verdict_in_code : Judged K → Verdict ℕ
  verdict_in_code (taken p) = Taken p
  verdict_in_code (redundant x) = Redundant
  verdict_in_code (clash v x) = Clash (F.code v)

  -- a reply, with its value's code, and the codes of what is shown
  abbrev pub reply_in_codes : Replied K → Reply ℕ × List ℕ
  reply_in_codes (fixed v x) = (Fixed (F.code v), codes_of x)
  reply_in_codes (free w) = (Free, codes_of w)
