-- What was asked of a set since its making, and what it answered.
use Rattle.std.specs.Prelude.{◌≡◌, ℕ, ◌<◌, ◌≤◌, List, [], ◌∷◌, ◌++◌, map}
use Rattle.arithmetic.specs.Fields.{Field}
use Rattle.columns.specs.Picks.{Pick, LawfulPick}
use Rattle.columns.specs.Factors.{rebuilt}
use Rattle.columns.specs.Determinants.{factored_determinant}
use Rattle.sets.specs.States.{State, Offer, Verdict, Reply, made, offered, in_turn, enquired, solution}
use Rattle.sets.specs.States.Reply.{fixed, free}
use Rattle.sets.specs.Subject.{Judgement, ZeroFrom}

-- one call, with its answer
pub data Call (K : Type 0) : Type 0 where
  offer : Judgement K → Call K
  -- by panels of this width
  batch : ℕ → List (Judgement K) → Call K
  load : List (Judgement K) → Call K
  enquire : (ℕ → K) → Reply K → Call K
  -- the column and the target held at a place
  rebuild : ℕ → (ℕ → K) → K → Call K
  seal : Call K
  solve : (ℕ → K) → Call K
  determine : K → Call K
  -- refused, with the refusal's number
  refuse : ℕ → Call K

-- the offers that were judged
unfoldable pub offers_of : {K : Type 0} → List (Judgement K) → List (Offer K)
offers_of = map (λ j. (j.column, j.target))

unfoldable pub verdicts_of : {K : Type 0} → List (Judgement K) → List (Verdict K)
verdicts_of = map (λ j. j.verdict)

module _ {K : Type 0} (F : Field K) where
  -- every judged column is zero from row m on
  abbrev pub AllZeroFrom : ℕ → List (Judgement K) → Type 0
  AllZeroFrom m [] = Unit {0}
  AllZeroFrom m (j ∷ js) = ZeroFrom F m j.column × AllZeroFrom m js

  -- these judgements, made in turn from state s, lead to state u
  pub record JudgedInTurn (pick : Pick) (s : State K) (js : List (Judgement K)) (u : State K) : Type 0 where
    pub lawful : LawfulPick pick
    pub zeros : AllZeroFrom s.factors.height js
    pub result : in_turn F pick s (offers_of js) ≡ (verdicts_of js, u)

-- a call at state s, and the state after it: offers are judged by any lawful pick, and other calls change nothing
pub data Step {K : Type 0} (F : Field K) (s : State K) : Call K → State K → Type 0 where
  offering : {u : State K} {j : Judgement K} (pick : Pick) → LawfulPick pick → ZeroFrom F s.factors.height j.column
      → offered F pick s j.column j.target ≡ (j.verdict, u) → Step F s (offer j) u
  batching : {u : State K} {js : List (Judgement K)} {width : ℕ} (pick : Pick) → JudgedInTurn F pick s js u → Step F s (batch width js) u
  loading : {u : State K} {js : List (Judgement K)} (pick : Pick) → JudgedInTurn F pick s js u → Step F s (load js) u
  enquiring : {q : ℕ → K} {a : Reply K} → enquired F s q ≡ a → Step F s (enquire q a) s
  rebuilding : {j : ℕ} {b : ℕ → K} {t : K} → j < s.factors.rank → rebuilt F s.factors j ≡ b → s.target j ≡ t → Step F s (rebuild j b t) s
  sealing : Step F s seal s
  -- only where the columns are as many as the unknowns
  solving : {x : ℕ → K} → s.factors.rank ≡ s.factors.height → solution F s ≡ x → Step F s (solve x) s
  determining : {d : K} → s.factors.rank ≡ s.factors.height → factored_determinant F s.factors ≡ d → Step F s (determine d) s
  refusing : {n : ℕ} → Step F s (refuse n) s

-- the calls since a set of m unknowns was made, the newest first, and the state after them;
-- no chooser picks from more than 96
pub data History {K : Type 0} (F : Field K) (m : ℕ) : List (Call K) → State K → Type 0 where
  making : m ≤ 96 → History F m [] (made F m)
  calling : {cs : List (Call K)} {c : Call K} {s u : State K} → History F m cs s → Step F s c u → History F m (c ∷ cs) u

-- a question that was accepted
pub data Question (K : Type 0) : Type 0 where
  offers : (ℕ → K) → K → Question K
  enquires : (ℕ → K) → Question K

-- an answer to it; many motions would do, so a free query tells no more
pub data Answer (K : Type 0) : Type 0 where
  judged : Verdict K → Answer K
  fixed_at : K → (ℕ → K) → Answer K
  is_free : Answer K

-- what a reply tells for certain
unfoldable pub shown : {K : Type 0} → Reply K → Answer K
shown (fixed v x) = fixed_at v x
shown (free w) = is_free

-- what one call tells, in order
pub record Told (K : Type 0) : Type 0 where
  pub judgements : List (Judgement K)
  pub questions : List (Question K)
  pub answers : List (Answer K)
  pub solutions : List (ℕ → K)
  pub determinants : List K

unfoldable pub told_nothing : {K : Type 0} → Told K
told_nothing = record { judgements = []; questions = []; answers = []; solutions = []; determinants = [] }

-- of columns judged in turn
unfoldable pub told_judgements : {K : Type 0} → List (Judgement K) → Told K
told_judgements js = record {
  judgements = js;
  questions = map (λ j. offers j.column j.target) js;
  answers = map (λ j. judged j.verdict) js;
  solutions = [];
  determinants = [];
}

unfoldable pub told : {K : Type 0} → Call K → Told K
told (offer j) = told_judgements (j ∷ [])
told (batch width js) = told_judgements js
told (load js) = told_judgements js
told (enquire q a) = record { judgements = []; questions = enquires q ∷ []; answers = shown a ∷ []; solutions = []; determinants = [] }
told (rebuild j b t) = told_nothing
told seal = told_nothing
told (solve x) = record { judgements = []; questions = []; answers = []; solutions = x ∷ []; determinants = [] }
told (determine d) = record { judgements = []; questions = []; answers = []; solutions = []; determinants = d ∷ [] }
told (refuse n) = told_nothing

-- Read off all calls, the oldest first.

unfoldable pub gathered : {K X : Type 0} → (Told K → List X) → List (Call K) → List X
gathered read [] = []
gathered read (c ∷ cs) = gathered read cs ++ read (told c)

unfoldable pub judgements : {K : Type 0} → List (Call K) → List (Judgement K)
judgements = gathered (λ a. a.judgements)

unfoldable pub questions : {K : Type 0} → List (Call K) → List (Question K)
questions = gathered (λ a. a.questions)

unfoldable pub answers : {K : Type 0} → List (Call K) → List (Answer K)
answers = gathered (λ a. a.answers)

unfoldable pub solutions : {K : Type 0} → List (Call K) → List (ℕ → K)
solutions = gathered (λ a. a.solutions)

unfoldable pub determinants : {K : Type 0} → List (Call K) → List K
determinants = gathered (λ a. a.determinants)
