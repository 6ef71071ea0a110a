-- What is read off a state is true of the columns held: replies, columns rebuilt, the solution and the determinant.
use Rattle.std.proofs.Common.{◌≡◌, ℕ, ◌+◌, ◌-◌, ◌<◌, Some, None, Option, sym, ◌∙◌, subst, arith, MatchOption}
use Rattle.arithmetic.specs.Fields.{Field, Lawful}
use Rattle.columns.specs.Factors.{Valid, worked, combination, rebuilt, lead}
use Rattle.columns.specs.Determinants.{determinant, factored_determinant}
use Rattle.columns.proofs.Leads.{Zeros, First, lead_finds}
use Rattle.columns.proofs.Motions.{assignment_meets, assignment_ends, assignment_unique}
use Rattle.columns.proofs.Determinants.{determinant_cong}
use Rattle.columns.proofs.Triangles.{determinant_by_factors}
use Rattle.sets.specs.States.{State, replied, enquired, solution}
use Rattle.sets.specs.States.Reply.{fixed}
use Rattle.sets.specs.Subject.{Solution, holding, Replies}
use Rattle.sets.specs.Subject.Replies.{fixes, frees}
use Rattle.sets.specs.Laws.{HeldAt, Ends}
use Rattle.sets.proofs.Parts.{by_parts}
use Rattle.sets.proofs.Endings.{motion_ends, rebuilt_ends}
use Rattle.sets.proofs.Holdings.{holding_at, holding_column, holding_target, holding_value, holding_dot, rest_zero_gives, holding_motion}
use Rattle.sets.proofs.Judging.{rest_zero_by_rows}

module _ {K : Type 0} (F : Field K) (W : Lawful F) (s : State K) (v : Valid F s.factors) where
  pub rebuilt_held_at : Ends F s → (j : ℕ) → j < s.factors.rank → HeldAt F (holding F s) j (rebuilt F s.factors j) (s.target j)
  rebuilt_held_at ends j l = record {
    inside = l;
    column = sym (holding_column F s j l (rebuilt_ends F W s v ends j));
    target = sym (holding_target F s j l);
  }

  pub enquired_replies : (q : ℕ → K) → Replies F s.factors.height (holding F s) q (enquired F s q)
  unfolding enquired replied
  enquired_replies q = go (lead F n rest) (lead_finds F W n rest)
    where
      n : ℕ
      n = s.factors.height - s.factors.rank

      rest : ℕ → K
      rest i = worked F s.factors q (s.factors.rank + i)

      x : ℕ → K
      x = combination F s.factors (worked F s.factors q)

      go : (o : Option ℕ) → MatchOption o (Zeros F n rest) (First F n rest)
          → Replies F s.factors.height (holding F s) q (replied F s (worked F s.factors q) o)
      go None zeros =
          subst (λ c. Replies F s.factors.height (holding F s) q (fixed c x)) (holding_value F s x)
          (fixes (rest_zero_gives F W s v q (rest_zero_by_rows F W s q zeros)))
      go (Some i) (l, h, before) = frees (holding_motion F W s v q i (omega arith) h) (motion_ends F s.factors v _ i (omega arith))

  pub solution_solves : s.factors.rank ≡ s.factors.height → Solution F s.factors.height (holding F s) (solution F s)
  unfolding solution
  solution_solves full = record {
    full = full;
    meets = λ j l. holding_dot F s _ j l ∙ assignment_meets F W s.factors v s.target j l ∙ sym (holding_target F s j l);
    zeros = assignment_ends F W s.factors v s.target;
  }

  pub one_solution : (x y : ℕ → K) → Solution F s.factors.height (holding F s) x → Solution F s.factors.height (holding F s) y → x ≡ y
  one_solution x y p q =
      by_parts s.factors.height x y
      (assignment_unique F W s.factors v p.full x y
      (λ j o. sym (holding_dot F s x j o) ∙ p.meets j o ∙ sym (q.meets j o) ∙ holding_dot F s y j o))
      (λ i l. p.zeros i l ∙ sym (q.zeros i l))

  pub factors_determine : s.factors.rank ≡ s.factors.height
      → factored_determinant F s.factors ≡ determinant F s.factors.height (holding F s).column
  factors_determine full =
      sym (determinant_by_factors F W s.factors v full)
      ∙ determinant_cong F s.factors.height _ _ (λ j i l q. sym (holding_at F s j i (omega arith) q))
