-- What answers by the formulas promise: each is a step, so the laws of histories speak of it.
use Rattle.std.proofs.Common.{◌≡◌, ℕ, ◌<◌, List, [], ◌∷◌, sym, refl}
use Rattle.arithmetic.specs.Fields.{Field, Lawful}
use Rattle.arithmetic.specs.Runs.{row}
use Rattle.columns.specs.Factors.{rebuilt}
use Rattle.columns.specs.Determinants.{factored_determinant}
use Rattle.sets.specs.States.{State, enquired, solution}
use Rattle.sets.specs.Histories.{Call, Step, History}
use Rattle.sets.specs.Histories.History.{calling}
use Rattle.sets.specs.Histories.Step.{enquiring, rebuilding, solving, determining}
use Rattle.sets.specs.Laws.{Called, Holds}
use Rattle.sets.specs.Asked.{seen_reply, Enquired, Rebuilt, Solved, Determined}
use Rattle.sets.specs.declared.reply.Reply.{Reply as Told}
use Rattle.sets.proofs.Laws.{history_holds}

module _ {K T : Type 0} (F : Field K) (W : Lawful F) (value : T → K) (s : State K) where
  holds_after : {c : Call K} → Step F s c s → (m : ℕ) (cs : List (Call K)) → History F m cs s → Holds F m (c ∷ cs) s
  holds_after {c = c} step m cs h = history_holds F W m (c ∷ cs) s (calling h step)

  newest : (c : Call K) (cs : List (Call K)) → Called (c ∷ cs) cs c
  newest c cs = record { after = []; order = refl }

  pub enquired_promises : (query answer : List T) (a : Told T) → enquired F s (row F value query) ≡ seen_reply F value a answer → Enquired F value s query answer a
  enquired_promises query answer a formula = record {
    formula = formula;
    step = enquiring formula;
    holds = λ m cs h. (holds_after (enquiring formula) m cs h).enquired cs _ _ (newest _ cs);
  }

  pub rebuilt_promises : (place : ℕ) (answer : List T) (t : T) → place < s.factors.rank → row F value answer ≡ rebuilt F s.factors place → value t ≡ s.target place
      → Rebuilt F value s place answer t
  rebuilt_promises place answer t inside column target = record {
    column = column;
    target = target;
    step = step;
    holds = λ m cs h. (holds_after step m cs h).rebuilt cs _ _ _ (newest _ cs);
  }
    where
      step : Step F s (Call.rebuild place (row F value answer) (value t)) s
      step = rebuilding inside (sym column) (sym target)

  pub solution_promises : (answer : List T) → s.factors.rank ≡ s.factors.height → row F value answer ≡ solution F s → Solved F value s answer
  solution_promises answer full formula = record {
    formula = formula;
    step = step;
    holds = λ m cs h. (holds_after step m cs h).solved cs _ (newest _ cs);
  }
    where
      step : Step F s (Call.solve (row F value answer)) s
      step = solving full (sym formula)

  pub determinant_promises : (d : T) → s.factors.rank ≡ s.factors.height → value d ≡ factored_determinant F s.factors → Determined F value s d
  determinant_promises d full formula = record {
    formula = formula;
    step = step;
    holds = λ m cs h. (holds_after step m cs h).determined cs _ (newest _ cs);
  }
    where
      step : Step F s (Call.determine (value d)) s
      step = determining full (sym formula)
