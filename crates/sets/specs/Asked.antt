-- What enquiries, rebuilds, solutions and determinants promise.
use Rattle.std.specs.Prelude.{◌≡◌, ℕ, List}
use Rattle.arithmetic.specs.Fields.{Field}
use Rattle.arithmetic.specs.Runs.{row}
use Rattle.columns.specs.Factors.{rebuilt}
use Rattle.columns.specs.Determinants.{factored_determinant}
use Rattle.sets.specs.States.{State, Reply, enquired, solution}
use Rattle.sets.specs.States.Reply.{fixed, free}
use Rattle.sets.specs.Subject.{Held}
use Rattle.sets.specs.Histories.{Call, Step, History}
use Rattle.sets.specs.Histories.Call.{enquire, rebuild, solve, determine}
use Rattle.sets.specs.Laws.{held, ReplyHolds, HeldAt, OnlySolution, Determined as IsDeterminant}
use Rattle.sets.specs.declared.reply.Reply.{Reply as Told}
use Rattle.sets.specs.declared.reply.Reply.TheVariants.{Fixed, Free}

-- whatever calls led to the state s, this is true of the unknowns and of what is held
abbrev pub InEveryHistory : {K : Type 0} → Field K → State K → (ℕ → Held K → Type 0) → Type 0
InEveryHistory {K = K} F s P = (m : ℕ) (cs : List (Call K)) → History F m cs s → P m (held F cs)

module _ {K T : Type 0} (F : Field K) (value : T → K) where
  -- a reply with what stands in the answer run
  abbrev pub seen_reply : Told T → List T → Reply K
  seen_reply (Fixed v) answer = fixed (value v) (row F value answer)
  seen_reply Free answer = free (row F value answer)

  -- an accepted enquiry of a set in state s
  pub record Enquired (s : State K) (query answer : List T) (a : Told T) : Type 0 where
    pub formula : enquired F s (row F value query) ≡ seen_reply a answer
    pub step : Step F s (enquire (row F value query) (seen_reply a answer)) s
    pub holds : InEveryHistory F s (λ m h. ReplyHolds F m h (row F value query) (seen_reply a answer))

  -- an accepted rebuild
  pub record Rebuilt (s : State K) (place : ℕ) (answer : List T) (t : T) : Type 0 where
    pub column : row F value answer ≡ rebuilt F s.factors place
    pub target : value t ≡ s.target place
    pub step : Step F s (rebuild place (row F value answer) (value t)) s
    pub holds : InEveryHistory F s (λ m h. HeldAt F h place (row F value answer) (value t))

  -- an accepted solution: the only assignment that meets every held column
  pub record Solved (s : State K) (answer : List T) : Type 0 where
    pub formula : row F value answer ≡ solution F s
    pub step : Step F s (solve (row F value answer)) s
    pub holds : InEveryHistory F s (λ m h. OnlySolution F m h (row F value answer))

  -- an accepted determinant: that of the held columns, by expansion
  pub record Determined (s : State K) (d : T) : Type 0 where
    pub formula : value d ≡ factored_determinant F s.factors
    pub step : Step F s (determine (value d)) s
    pub holds : InEveryHistory F s (λ m h. IsDeterminant F m h (value d))
