-- An offer, by any lawful pick, is a judgement of the subject on the columns held.
use Rattle.std.proofs.Common.{◌≡◌, ℕ, ◌+◌, ◌-◌, ◌<◌, ◌≤◌, List, length, get_or, Some, None, Option, sym, refl, ap, ◌∙◌, subst, arith, MatchOption}
use native.Mathlib.Decide.{ℕ_discrete}
use Rattle.arithmetic.specs.Fields.{Field, Lawful}
use Rattle.columns.specs.Swaps.{choose}
use Rattle.columns.specs.Picks.{Pick, AllZero, NonzeroAt, Fit, LawfulPick}
use Rattle.columns.specs.Factors.{Valid, worked, RestZero, combination}
use Rattle.columns.proofs.Takings.{valid_extended}
use Rattle.sets.specs.States.{State, Verdict, made, codes, unknowns_in_rows, picked, value_of, repeated, decided, offered}
use Rattle.sets.specs.States.Verdict.{taken, redundant, clash}
use Rattle.sets.specs.Subject.{ZeroFrom, holding, Judges}
use Rattle.sets.specs.Subject.Judges.{takes, repeats, clashes}
use Rattle.sets.specs.Laws.{Ends}
use Rattle.sets.proofs.Lists.{length_listed, getD_listed}
use Rattle.sets.proofs.Endings.{taken_ends}
use Rattle.sets.proofs.Holdings.{holding_value, holding_taken, rest_zero_gives, combines_rest_zero}

module _ {K : Type 0} (F : Field K) where
  pub valid_made : (m : ℕ) → Valid F (made F m).factors
  valid_made m = record { fits = omega arith; inside = λ k l. absurd (omega arith); diagonal = λ j l. absurd (omega arith) }

module _ {K : Type 0} (F : Field K) (W : Lawful F) where
  open F use {zero as 𝟘, code}

  -- a rest that is zero row by row
  pub rest_zero_by_rows : (s : State K) (b : ℕ → K)
      → ((i : ℕ) → i < s.factors.height - s.factors.rank → worked F s.factors b (s.factors.rank + i) ≡ 𝟘) → RestZero F s.factors b
  rest_zero_by_rows s b zeros i l q =
      let here : i ≡ s.factors.rank + (i - s.factors.rank) = omega arith in
      ap (worked F s.factors b) here ∙ zeros (i - s.factors.rank) (omega arith)

  module _ (s : State K) (v : Valid F s.factors) (b : ℕ → K) where
    -- a zero rest: the combination is found, and its value decides
    repeated_judges : (t : K) → RestZero F s.factors b
        → Judges F s.factors.height (holding F s) b t (repeated F s (combination F s.factors (worked F s.factors b)) t) (holding F s)
    unfolding repeated
    repeated_judges t rest = go (ℕ_discrete (code (value_of F s x)) (code t))
      where
        x : ℕ → K
        x = combination F s.factors (worked F s.factors b)

        go : (d : Dec (code (value_of F s x) ≡ code t))
            → Judges F s.factors.height (holding F s) b t (choose d (redundant x) (clash (value_of F s x) x)) (holding F s)
        go (yes e) = repeats (rest_zero_gives F W s v b rest) (holding_value F s x ∙ W.code_same _ _ e)
        go (no e) =
            subst (λ c. Judges F s.factors.height (holding F s) b t (clash c x) (holding F s)) (holding_value F s x)
            (clashes (rest_zero_gives F W s v b rest) (λ f. e (ap code (sym (holding_value F s x) ∙ f))))

    -- an answer to the offer of b at target t that is as it should be
    pub record JudgedWell (t : K) (answer : Verdict K × State K) : Type 0 where
      pub valid : Valid F answer.1.factors
      pub height : answer.1.factors.height ≡ s.factors.height
      pub ends : Ends F s → Ends F answer.1
      pub judges : Judges F s.factors.height (holding F s) b t answer.0 (holding F answer.1)

    -- an entry that is not zero: no combination, and the column is taken
    taking_judges : (t : K) (q : ℕ) → ZeroFrom F s.factors.height b → s.factors.rank + q < s.factors.height
        → ¬ (worked F s.factors b (s.factors.rank + q) ≡ 𝟘) → JudgedWell t (decided F s (worked F s.factors b) t (Some q))
    unfolding decided
    taking_judges t q zeros l h = record {
      valid = valid_extended F W s.factors b q v l h;
      height = refl;
      ends = λ e. taken_ends F W s v e b t q zeros l;
      judges =
          subst (λ g. Judges F s.factors.height (holding F s) b t (taken s.factors.rank) g) (sym (holding_taken F W s b t q zeros h))
          (takes (λ c. h (combines_rest_zero F W s v b c (s.factors.rank + q) (omega arith) l)));
    }

    pub offered_judges : (pick : Pick) (t : K) → LawfulPick pick → s.factors.height ≤ 96 → ZeroFrom F s.factors.height b
        → JudgedWell t (offered F pick s b t)
    unfolding offered picked codes unknowns_in_rows decided
    offered_judges pick t lawful small zeros = go (pick cs (unknowns_in_rows F s)) (lawful.answers cs (unknowns_in_rows F s) fit)
      where
        cs : List ℕ
        cs = codes F s (worked F s.factors b)

        size : length cs ≡ s.factors.height - s.factors.rank
        size = length_listed _ _

        fit : Fit cs (unknowns_in_rows F s)
        fit = (size ∙ sym (length_listed _ _), rw size (omega arith))

        at : (i : ℕ) → i < s.factors.height - s.factors.rank → get_or cs i 0 ≡ code (worked F s.factors b (s.factors.rank + i))
        at i l = getD_listed _ _ 0 i l

        row_zero : AllZero cs → (i : ℕ) → i < s.factors.height - s.factors.rank → worked F s.factors b (s.factors.rank + i) ≡ 𝟘
        row_zero all i l = W.code_same _ _ (sym (at i l) ∙ all i (rw size l) ∙ sym W.code_zero)

        go : (o : Option ℕ) → MatchOption o (AllZero cs) (NonzeroAt cs) → JudgedWell t (decided F s (worked F s.factors b) t o)
        go None all = record { valid = v; height = refl; ends = λ e. e; judges = repeated_judges t (rest_zero_by_rows s b (row_zero all)) }
        go (Some q) (l, h) =
            let k : q < s.factors.height - s.factors.rank = rw size at l in
            taking_judges t q zeros (omega arith) (λ e. h (at q k ∙ ap code e ∙ W.code_zero))
