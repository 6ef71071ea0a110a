-- An enquiry answers by its formula.
use Rattle.std.proofs.Common.{◌≡◌, ℕ, ◌+◌, ◌-◌, Some, None, Option, sym, ap, ◌∙◌}
use Rattle.arithmetic.specs.Fields.{Field}
use Rattle.columns.specs.Factors.{worked, lead, combination, motion}
use Rattle.sets.specs.States.{State, value_of, replied, enquired}
use Rattle.sets.specs.States.Reply.{fixed, free}

-- the query q is worked to w; p is where w leads, from the rank on
module _ {K : Type 0} (F : Field K) (s : State K) (q w : ℕ → K) (works : w ≡ worked F s.factors q) where
  by_lead : (p : Option ℕ) → p ≡ lead F (s.factors.height - s.factors.rank) (λ i. w (s.factors.rank + i)) → enquired F s q ≡ replied F s w p
  unfolding enquired replied
  by_lead p first =
      ap (λ (u : ℕ → K). replied F s u (lead F (s.factors.height - s.factors.rank) (λ i. u (s.factors.rank + i)))) (sym works)
      ∙ ap (replied F s w) (sym first)

  pub enquired_fixed : (x : ℕ → K) (v : K) → None ≡ lead F (s.factors.height - s.factors.rank) (λ i. w (s.factors.rank + i)) → x ≡ combination F s.factors w → v ≡ value_of F s x
      → enquired F s q ≡ fixed v x
  unfolding replied
  enquired_fixed x v first combines worth =
      by_lead None first ∙ ap (λ (y : ℕ → K). fixed (value_of F s y) y) (sym combines) ∙ ap (λ t. fixed t x) (sym worth)

  pub enquired_free : (x : ℕ → K) (i : ℕ) → Some i ≡ lead F (s.factors.height - s.factors.rank) (λ i. w (s.factors.rank + i)) → x ≡ motion F s.factors w i → enquired F s q ≡ free x
  unfolding replied
  enquired_free x i first moves = by_lead (Some i) first ∙ ap free (sym moves)
