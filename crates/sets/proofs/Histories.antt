-- Every call, by its formula, is one of the subject's: what stands after a history.
use Rattle.std.proofs.Common.{◌≡◌, ℕ, ◌≤◌, List, [], ◌∷◌, ◌++◌, sym, refl, ap, ◌∙◌, subst, ap₂, subst₂}
use Rattle.arithmetic.specs.Fields.{Field, Lawful}
use Rattle.columns.specs.Picks.{Pick, LawfulPick}
use Rattle.columns.specs.Factors.{Valid}
use Rattle.columns.specs.Determinants.{determinant}
use Rattle.columns.proofs.Motions.{assignment_meets}
use Rattle.sets.specs.States.{State, Verdict, Reply, made, first_then, offered, in_turn, solution}
use Rattle.sets.specs.Subject.{Judgement, nothing, ZeroFrom, Solution, holding, Judges, Replies}
use Rattle.sets.specs.Histories.{Call, Step, History, JudgedInTurn, AllZeroFrom, offers_of, verdicts_of}
use Rattle.sets.specs.Histories.{Told, told_nothing, told_judgements, told, gathered, judgements, questions, answers, solutions, determinants}
use Rattle.sets.specs.Histories.Call.{offer, batch, load, enquire, rebuild, seal, solve, determine, refuse}
use Rattle.sets.specs.Histories.Step.{offering, batching, loading, enquiring, rebuilding, sealing, solving, determining, refusing}
use Rattle.sets.specs.Histories.History.{making, calling}
use Rattle.sets.specs.Laws.{HeldAt, Determined, Ends}
use Rattle.sets.proofs.Lists.{Every, every_on, every_map}
use Rattle.sets.proofs.Endings.{made_ends}
use Rattle.sets.proofs.Holdings.{holding_made, holding_target, holding_dot, holding_independent}
use Rattle.sets.proofs.Judging.{valid_made, JudgedWell, offered_judges}
use Rattle.sets.proofs.Enquiries.{enquired_replies, rebuilt_held_at, solution_solves, factors_determine}
use Rattle.sets.proofs.Verdicts.{Sound, Fair}
use Rattle.sets.proofs.Courses.{Judgings, judgings_on, full_stays}
use Rattle.sets.proofs.Courses.Judgings.{none, next}
use Rattle.sets.proofs.Agreements.{Course, course_on, judgings_course}
use Rattle.sets.proofs.Agreements.Course.{done, replying}

-- the calls before one, and that one
pub history_then : {K : Type 0} (F : Field K) (m : ℕ) (after before : List (Call K)) (c : Call K) {u : State K}
    → History F m (after ++ (c ∷ before)) u → (s g : State K) × History F m before s × Step F s c g
history_then F m [] before c (calling h p) = (_, _, h, p)
history_then F m (_ ∷ after) before c (calling h p) = history_then F m after before c h

module _ {K : Type 0} (F : Field K) where
  -- valid factors of height m, and nothing else
  pub record Good (m : ℕ) (s : State K) : Type 0 where
    pub height : s.factors.height ≡ m
    pub small : m ≤ 96
    pub valid : Valid F s.factors
    pub ends : Ends F s

  -- what a history leaves: the state, and that all it told is true
  pub record Stands (m : ℕ) (cs : List (Call K)) (s : State K) : Type 0 where
    pub good : Good m s
    pub judgings : Judgings F m (nothing F) (judgements cs) (holding F s)
    pub course : Course F m (nothing F) (questions cs) (answers cs) (holding F s)
    pub solved : Every (Solution F m (holding F s)) (solutions cs)
    pub determined : Every (Determined F m (holding F s)) (determinants cs)

  -- offers in turn are one offer, then the others from the state after it
  turn_first : (pick : Pick) (s u : State K) (j : Judgement K) (js : List (Judgement K))
      → in_turn F pick s (offers_of (j ∷ js)) ≡ (verdicts_of (j ∷ js), u)
      → let o = offered F pick s j.column j.target in (o ≡ (j.verdict, o.1)) × (in_turn F pick o.1 (offers_of js) ≡ (verdicts_of js, u))
  unfolding in_turn first_then offers_of verdicts_of
  turn_first pick s u j js e =
      (ap (λ v. (v, o.1)) (cc verdicts), ap₂ (λ vs s. (vs, s)) (cc verdicts) (ap (λ (p : List (Verdict K) × State K). p.1) e))
    where
      o : Verdict K × State K
      o = offered F pick s j.column j.target

      last : List (Verdict K) × State K
      last = in_turn F pick o.1 (offers_of js)

      verdicts : (o.0 ∷ last.0) ≡ (j.verdict ∷ verdicts_of js)
      verdicts = ap (λ (p : List (Verdict K) × State K). p.0) e

module _ {K : Type 0} (F : Field K) (W : Lawful F) (m : ℕ) where
  -- the columns held in a good state are independent, and its assignment meets them
  pub good_sound : (s : State K) → Good F m s → Sound F m (holding F s)
  unfolding solution
  good_sound s g = subst (λ m. Sound F m (holding F s)) g.height (record {
    independent = holding_independent F W s g.valid;
    assignment = solution F s;
    meets = λ j l. holding_dot F s _ j l ∙ assignment_meets F W s.factors g.valid s.target j l ∙ sym (holding_target F s j l);
  })

  -- judgements from one state lead to another
  record LeadsTo (s : State K) (js : List (Judgement K)) (u : State K) : Type 0 where
    good : Good F m u
    judgings : Judgings F m (holding F s) js (holding F u)

  -- one offer
  offer_leads : (pick : Pick) → LawfulPick pick → (s u : State K) (j : Judgement K) → Good F m s → ZeroFrom F s.factors.height j.column
      → offered F pick s j.column j.target ≡ (j.verdict, u) → LeadsTo s (j ∷ []) u
  offer_leads pick lawful s u j g zeros e = record { good = after; judgings = next fair none }
    where
      well : JudgedWell F W s g.valid j.column j.target (j.verdict, u)
      well =
          subst (JudgedWell F W s g.valid j.column j.target) e
          (offered_judges F W s g.valid j.column pick j.target lawful (subst (λ n. n ≤ 96) (sym g.height) g.small) zeros)

      after : Good F m u
      after = record { height = well.height ∙ g.height; small = g.small; valid = well.valid; ends = well.ends g.ends }

      fair : Fair F m (holding F s) j (holding F u)
      fair = record {
        before = good_sound s g;
        after = good_sound u after;
        judges = subst (λ n. Judges F n (holding F s) j.column j.target j.verdict (holding F u)) g.height well.judges;
      }

  -- offers in turn
  turn_leads : (pick : Pick) → LawfulPick pick → (js : List (Judgement K)) (s u : State K) → Good F m s → AllZeroFrom F s.factors.height js
      → in_turn F pick s (offers_of js) ≡ (verdicts_of js, u) → LeadsTo s js u
  unfolding in_turn offers_of verdicts_of
  turn_leads pick lawful [] s u g zeros e =
      subst (λ u. LeadsTo s [] u) (ap (λ (p : List (Verdict K) × State K). p.1) e) (record { good = g; judgings = none })
  turn_leads pick lawful (j ∷ js) s u g (zeros, more) e =
      let o = offered F pick s j.column j.target in
      let (now, later) = turn_first F pick s u j js e in
      let first = offer_leads pick lawful s o.1 j g zeros now in
      let inside = subst (λ n. AllZeroFrom F n js) (g.height ∙ sym first.good.height) more in
      let rest = turn_leads pick lawful js o.1 u first.good inside later in
      record { good = rest.good; judgings = judgings_on F m first.judgings rest.judgings }

  judged_leads : (pick : Pick) (js : List (Judgement K)) (s u : State K) → Good F m s → JudgedInTurn F pick s js u → LeadsTo s js u
  judged_leads pick js s u g t = turn_leads pick t.lawful js s u g t.zeros t.result

  made_stands : m ≤ 96 → Stands F m [] (made F m)
  unfolding gathered judgements questions answers solutions determinants
  made_stands small = record {
    good = record { height = refl; small = small; valid = valid_made F m; ends = made_ends F m };
    judgings = subst (λ h. Judgings F m (nothing F) [] h) (sym (holding_made F m)) none;
    course = subst (λ h. Course F m (nothing F) [] [] h) (sym (holding_made F m)) done;
    solved = tt;
    determined = tt;
  }

  -- what is told from one state to the next is true
  record Tells (s : State K) (a : Told K) (u : State K) : Type 0 where
    good : Good F m u
    judgings : Judgings F m (holding F s) a.judgements (holding F u)
    course : Course F m (holding F s) a.questions a.answers (holding F u)
    solved : Every (Solution F m (holding F u)) a.solutions
    determined : Every (Determined F m (holding F u)) a.determinants

  leads_tells : {s u : State K} {js : List (Judgement K)} → LeadsTo s js u → Tells s (told_judgements js) u
  unfolding told_judgements
  leads_tells l = record { good = l.good; judgings = l.judgings; course = judgings_course F m l.judgings; solved = tt; determined = tt }

  tells_nothing : {s : State K} → Good F m s → Tells s told_nothing s
  unfolding told_nothing
  tells_nothing g = record { good = g; judgings = none; course = done; solved = tt; determined = tt }

  -- What one call tells of a good state.

  pub step_replies : (s : State K) {q : ℕ → K} {a : Reply K} {u : State K} → Good F m s → Step F s (enquire q a) u → Replies F m (holding F s) q a
  step_replies s {q} g (enquiring e) = subst₂ (λ n a. Replies F n (holding F s) q a) g.height e (enquired_replies F W s g.valid q)

  pub step_rebuilds : (s : State K) {j : ℕ} {b : ℕ → K} {t : K} {u : State K} → Good F m s → Step F s (rebuild j b t) u
      → HeldAt F (holding F s) j b t
  step_rebuilds s {j} g (rebuilding l e f) =
      subst₂ (λ (b : ℕ → K) t. HeldAt F (holding F s) j b t) e f (rebuilt_held_at F W s g.valid g.ends j l)

  pub step_solves : (s : State K) {x : ℕ → K} {u : State K} → Good F m s → Step F s (solve x) u → Solution F m (holding F s) x
  step_solves s g (solving full e) =
      subst₂ (λ n (x : ℕ → K). Solution F n (holding F s) x) g.height e (solution_solves F W s g.valid full)

  pub step_determines : (s : State K) {d : K} {u : State K} → Good F m s → Step F s (determine d) u → Determined F m (holding F s) d
  step_determines s g (determining full e) = record {
    full = full ∙ g.height;
    value_is = sym e ∙ factors_determine F W s g.valid full ∙ ap (λ n. determinant F n (holding F s).column) g.height;
  }

  step_tells : (s u : State K) (c : Call K) → Good F m s → Step F s c u → Tells s (told c) u
  unfolding told
  step_tells s u (offer j) g (offering pick lawful zeros e) = leads_tells (offer_leads pick lawful s u j g zeros e)
  step_tells s u (batch width js) g (batching pick t) = leads_tells (judged_leads pick js s u g t)
  step_tells s u (load js) g (loading pick t) = leads_tells (judged_leads pick js s u g t)
  step_tells s _ (enquire q a) g (enquiring e) =
      record { good = g; judgings = none; course = replying (good_sound s g) (step_replies s g (enquiring e)) done; solved = tt; determined = tt }
  step_tells s _ (rebuild j b t) g (rebuilding l e f) = tells_nothing g
  step_tells s _ seal g sealing = tells_nothing g
  step_tells s _ (solve x) g (solving full e) =
      record { good = g; judgings = none; course = done; solved = (step_solves s g (solving full e), tt); determined = tt }
  step_tells s _ (determine d) g (determining full e) =
      record { good = g; judgings = none; course = done; solved = tt; determined = (step_determines s g (determining full e), tt) }
  step_tells s _ (refuse n) g refusing = tells_nothing g

  pub history_stands : {cs : List (Call K)} {s : State K} → History F m cs s → Stands F m cs s
  unfolding gathered judgements questions answers solutions determinants
  history_stands (making small) = made_stands small
  history_stands (calling {cs = cs} {c = c} {s = s} {u = u} h p) = on (history_stands h)
    where
      on : Stands F m cs s → Stands F m (c ∷ cs) u
      on st =
          let a = step_tells s u c st.good p in
          let stays : (holding F s).count ≡ m → holding F s ≡ holding F u = λ full. sym (full_stays F W m a.judgings full) in
          record {
            good = a.good;
            judgings = judgings_on F m st.judgings a.judgings;
            course = course_on F m st.course a.course;
            solved = every_on _ (solutions cs) _
                (every_map _ _ (solutions cs) (λ x k. subst (λ h. Solution F m h x) (stays k.full) k) st.solved) a.solved;
            determined = every_on _ (determinants cs) _
                (every_map _ _ (determinants cs) (λ d k. subst (λ h. Determined F m h d) (stays k.full) k) st.determined) a.determined;
          }
