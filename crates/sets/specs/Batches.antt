-- What a batch promises.
use Rattle.std.specs.Prelude.{◌≡◌, ℕ, List, [], ◌∷◌, ◌++◌, length, map, drop}
use Rattle.arithmetic.specs.Fields.{Field}
use Rattle.arithmetic.specs.Runs.{row}
use Rattle.columns.specs.Picks.{Pick}
use Rattle.columns.specs.Panels.{cells}
use Rattle.sets.specs.States.{Offer, Verdict, verdict_number, listed, in_turn}
use Rattle.sets.specs.Subject.{Judgement}
use Rattle.sets.specs.Histories.{Step}
use Rattle.sets.specs.Histories.Call.{batch}
use Rattle.sets.specs.Sets.{state, surplus}
use Rattle.sets.specs.declared.set.Set.{Set}

-- offers with their verdicts
abbrev pub judged_so : {K : Type 0} → List (Offer K) → List (Verdict K) → List (Judgement K)
judged_so [] vs = []
judged_so (o ∷ os) [] = []
judged_so (o ∷ os) (v ∷ vs) = record { column = o.0; target = o.1; verdict = v } ∷ judged_so os vs

module _ {K T : Type 0} (F : Field K) (value : T → K) where
  -- columns of height m, one after another, each with its target
  abbrev pub offers_in : ℕ → List T → List T → List (Offer K)
  offers_in m columns targets = listed (length targets) (λ j. (cells F value m columns j, row F value targets j))

  -- a batch that was judged: what so many offers with the same chooser would leave and say
  pub record Batched {S : Type 0} (pick : Pick) (s : Set T S) (targets columns : List T) (width : ℕ) (before : List ℕ) (u : Set T S) (after : List ℕ) : Type 0 where
    pub state_after : let e = in_turn F pick (state F value s) (offers_in s.unknowns columns targets) in state F value u ≡ e.1
    pub verdicts : let e = in_turn F pick (state F value s) (offers_in s.unknowns columns targets) in after ≡ map verdict_number e.0 ++ drop (length targets) before
    pub step : let os = offers_in s.unknowns columns targets in
        Step F (state F value s) (batch width (judged_so os (in_turn F pick (state F value s) os).0)) (state F value u)
    pub surplus : surplus u ≡ surplus s
    pub refusal : u.refusal ≡ s.refusal
