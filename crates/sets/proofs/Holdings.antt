-- The columns that a state holds, by its factors.
use Rattle.std.proofs.Common.{◌≡◌, ℕ, suc, ◌+◌, ◌<◌, sym, ap, ◌∙◌, ap₂, arith}
use mathlib.Core.Path.{fun_ext}
use Rattle.arithmetic.specs.Fields.{Field, Lawful}
use Rattle.arithmetic.specs.Runs.{dot}
use Rattle.columns.specs.Linear.{combine, Independent, Motion}
use Rattle.columns.specs.Swaps.{joined}
use Rattle.columns.specs.Factors.{Valid, worked, RestZero, combination, rebuilt, motion}
use Rattle.columns.proofs.Places.{put_at, put_off, joined_low, joined_high}
use Rattle.columns.proofs.Sums.{total_cong}
use Rattle.columns.proofs.Swaps.{swapped_from, from_below}
use Rattle.columns.proofs.Factors.{unit_lower, valid_upper, rebuilt_swapped, combination_ends}
use Rattle.columns.proofs.Factors.{rebuilt_independent, rest_zero_combines, combination_exactly}
use Rattle.columns.proofs.Takings.{rebuilt_old, rebuilt_new}
use Rattle.columns.proofs.Motions.{motion_moves}
use Rattle.sets.specs.States.{State, made, value_of, taken_at}
use Rattle.sets.specs.Subject.{Held, hold, nothing, ZeroFrom, Combination, Combines, value, holding}
use Rattle.sets.specs.Laws.{Factored}
use Rattle.sets.proofs.Parts.{joined_more, joined_same}

module _ {K : Type 0} (F : Field K) where
  infixl 70 ◌⊙◌
  open F use {zero as 𝟘, product as ◌⊙◌}

  held_of : ℕ → (ℕ → ℕ → K) → (ℕ → K) → Held K
  held_of n A t = record { count = n; column = A; target = t }

  pub holding_made : (m : ℕ) → holding F (made F m) ≡ nothing F
  unfolding held_of
  holding_made m = ap₂ (held_of 0) (fun_ext (λ j. joined_high 0 _ _ j (omega arith))) (fun_ext (λ j. joined_high 0 _ _ j (omega arith)))

  module _ (s : State K) where
    pub holding_at : (j i : ℕ) → j < s.factors.rank → i < s.factors.height → (holding F s).column j i ≡ rebuilt F s.factors j i
    holding_at j i l q = ap (λ (c : ℕ → K). c i) (joined_low s.factors.rank _ _ j l) ∙ joined_low s.factors.height _ _ i q

    pub holding_column : (j : ℕ) → j < s.factors.rank → ZeroFrom F s.factors.height (rebuilt F s.factors j)
        → (holding F s).column j ≡ rebuilt F s.factors j
    holding_column j l zeros = joined_low s.factors.rank _ _ j l ∙ joined_same s.factors.height _ _ zeros

    pub holding_target : (j : ℕ) → j < s.factors.rank → (holding F s).target j ≡ s.target j
    holding_target = joined_low s.factors.rank s.target _

    pub holding_value : (x : ℕ → K) → value F (holding F s) x ≡ value_of F s x
    unfolding value_of value
    holding_value x = total_cong F s.factors.rank _ _ (λ j l. ap (λ c. c ⊙ x j) (holding_target j l))

    holding_combine : (x : ℕ → K) (i : ℕ) → i < s.factors.height
        → combine F s.factors.rank (holding F s).column x i ≡ combine F s.factors.rank (rebuilt F s.factors) x i
    holding_combine x i q = total_cong F s.factors.rank _ _ (λ j l. ap (λ c. c ⊙ x j) (holding_at j i l q))

    pub holding_dot : (w : ℕ → K) (j : ℕ) → j < s.factors.rank
        → dot F s.factors.height w ((holding F s).column j) ≡ dot F s.factors.height w (rebuilt F s.factors j)
    holding_dot w j l = total_cong F s.factors.height _ _ (λ i q. ap (λ c. w i ⊙ c) (holding_at j i l q))

module _ {K : Type 0} (F : Field K) (W : Lawful F) where
  open F use {zero as 𝟘}

  -- the held columns after a taking
  pub holding_taken : (s : State K) (b : ℕ → K) (t : K) (q : ℕ) → ZeroFrom F s.factors.height b
      → ¬ (worked F s.factors b (s.factors.rank + q) ≡ 𝟘) → holding F (taken_at F s (worked F s.factors b) t q) ≡ hold (holding F s) b t
  unfolding held_of
  holding_taken s b t q zeros h =
      ap₂ (held_of F (suc r))
      (joined_more r _ (λ j. cut (rebuilt F s.factors j)) _ b
      (ap cut (rebuilt_new F W s.factors b q h) ∙ joined_same s.factors.height b _ zeros)
      (λ j l. ap cut (rebuilt_old F W s.factors b q j l)))
      (joined_more r _ s.target _ t (put_at r t s.target) (λ j l. put_off r t s.target j (omega arith)))
    where
      r : ℕ
      r = s.factors.rank

      cut : (ℕ → K) → ℕ → K
      cut c = joined s.factors.height c (λ i. 𝟘)

  module _ (s : State K) (v : Valid F s.factors) where
    pub holding_independent : Independent F s.factors.height s.factors.rank (holding F s).column
    holding_independent x zeros = rebuilt_independent F W s.factors v x (λ i l. sym (holding_combine F s x i l) ∙ zeros i l)

    pub holding_factored : Factored F s.factors.height (holding F s) s.factors
    holding_factored = record {
      lower_unit = unit_lower F s.factors;
      upper_diagonal = valid_upper F s.factors v;
      product = λ j i l q.
          swapped_from s.factors.offset s.factors.rank _ i
          ∙ holding_at F s j _ l (from_below s.factors.offset s.factors.height s.factors.rank i v.inside q)
          ∙ sym (swapped_from s.factors.offset s.factors.rank _ i)
          ∙ ap (λ (c : ℕ → K). c i) (rebuilt_swapped F s.factors j);
    }

    -- a zero rest: a combination
    pub rest_zero_gives : (b : ℕ → K) → RestZero F s.factors b
        → Combination F s.factors.height (holding F s) b (combination F s.factors (worked F s.factors b))
    rest_zero_gives b rest = record {
      gives = λ i l. holding_combine F s _ i l ∙ rest_zero_combines F W s.factors v b rest i l;
      zeros = combination_ends F s.factors _;
    }

    -- and none else
    pub combines_rest_zero : (b : ℕ → K) → Combines F s.factors.height (holding F s) b → RestZero F s.factors b
    combines_rest_zero b (x, e) = (combination_exactly F W s.factors v b).0 (x, λ i l. sym (holding_combine F s x i l) ∙ e i l)

    -- any entry of the rest that is not zero shows a motion
    pub holding_motion : (b : ℕ → K) (q : ℕ) → s.factors.rank + q < s.factors.height → ¬ (worked F s.factors b (s.factors.rank + q) ≡ 𝟘)
        → Motion F s.factors.height s.factors.rank (holding F s).column b (motion F s.factors (worked F s.factors b) q)
    holding_motion b q l h =
        let k = motion_moves F W s.factors v b q l h in
        record { rests = λ j o. holding_dot F s _ j o ∙ k.rests j o; moves = k.moves }
