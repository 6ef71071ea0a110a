-- The laws of sets, put together.
use Rattle.std.proofs.Common.{◌≡◌, ℕ, List, get_or, sym, ap, ◌∙◌, subst, subst₂}
use Rattle.arithmetic.specs.Fields.{Field, Lawful}
use Rattle.columns.specs.Linear.{Independent}
use Rattle.columns.specs.Determinants.{determinant}
use Rattle.columns.proofs.Dimension.{independent_no_more}
use Rattle.sets.specs.States.{State, Reply}
use Rattle.sets.specs.Subject.{Held, Judgement, nothing, Combines, Solution, holding, Replies}
use Rattle.sets.specs.Histories.{Call, Step, History, questions, answers, solutions, determinants}
use Rattle.sets.specs.Histories.Call.{enquire, rebuild, solve, determine}
use Rattle.sets.specs.Laws.{Judged, Called, held_after, held, judged_column}
use Rattle.sets.specs.Laws.{Factored, OnlySolution, HeldAt, Determined, VerdictHolds, Holds, Agreement, Laws}
use Rattle.sets.proofs.Lists.{every_at}
use Rattle.sets.proofs.Endings.{stored_equal}
use Rattle.sets.proofs.Holdings.{holding_factored}
use Rattle.sets.proofs.Enquiries.{one_solution}
use Rattle.sets.proofs.Ahead.{in_turn_cut, panelled_is_in_turn}
use Rattle.sets.proofs.Verdicts.{Sound, Fair, Extends, meets_before, judges_met, verdict_holds, reply_holds}
use Rattle.sets.proofs.Courses.{Judgings, judgings_keep, judged_then, judged_combines}
use Rattle.sets.proofs.Agreements.{Course, course_same}
use Rattle.sets.proofs.Histories.{history_then, Good, Stands, good_sound, history_stands}
use Rattle.sets.proofs.Histories.{step_replies, step_rebuilds, step_solves, step_determines}

module _ {K : Type 0} (F : Field K) (W : Lawful F) (m : ℕ) where
  -- the state at a call, what was held then, and the step
  record At (before : List (Call K)) (c : Call K) : Type 0 where
    state : State K
    next : State K
    good : Good F m state
    holds : holding F state ≡ held F before
    step : Step F state c next

  stands_held : {cs : List (Call K)} {s : State K} → Stands F m cs s → holding F s ≡ held F cs
  unfolding held held_after
  stands_held st = judgings_keep F m st.judgings

  called_at : {cs before : List (Call K)} {c : Call K} {s : State K} → History F m cs s → Called cs before c → At before c
  called_at {before = before} {c = c} {s = s} h d =
      let (state, next, earlier, step) = history_then F m d.after before c (subst (λ cs. History F m cs s) d.order h) in
      let st = history_stands F W m earlier in
      record { state = state; next = next; good = st.good; holds = stands_held st; step = step }

  -- the judgement, on what was held then, and that nothing was lost since
  record JudgedAt (before : List (Judgement K)) (j : Judgement K) (k : Held K) : Type 0 where
    next : Held K
    fair : Fair F m (held_after F before) j next
    since : Extends next k

  judged_at : {cs : List (Call K)} {before : List (Judgement K)} {j : Judgement K} {s : State K} → Stands F m cs s → Judged cs before j
      → JudgedAt before j (holding F s)
  unfolding held_after
  judged_at {before = before} {j = j} {s = s} st d =
      let all = subst (λ js. Judgings F m (nothing F) js (holding F s)) d.order st.judgings in
      let (next, fair, since) = judged_then F m before d.after j all in
      record { next = next; fair = fair; since = since }

  then_sound : {before : List (Call K)} {c : Call K} → At before c → Sound F m (held F before)
  then_sound a = subst (Sound F m) a.holds (good_sound F W m a.state a.good)

  then_replies : {before : List (Call K)} {q : ℕ → K} {r : Reply K} → At before (enquire q r) → Replies F m (held F before) q r
  then_replies {q = q} {r = r} a = subst (λ h. Replies F m h q r) a.holds (step_replies F W m a.state a.good a.step)

  then_rebuilt : {before : List (Call K)} {j : ℕ} {b : ℕ → K} {t : K} → At before (rebuild j b t) → HeldAt F (held F before) j b t
  then_rebuilt {j = j} {b = b} {t = t} a = subst (λ h. HeldAt F h j b t) a.holds (step_rebuilds F W m a.state a.good a.step)

  good_solutions : (s : State K) (x y : ℕ → K) → Good F m s → Solution F m (holding F s) x → Solution F m (holding F s) y → x ≡ y
  good_solutions s x y g =
      subst (λ n. Solution F n (holding F s) x → Solution F n (holding F s) y → x ≡ y) g.height (one_solution F W s g.valid x y)

  then_solved : {before : List (Call K)} {x : ℕ → K} → At before (solve x) → OnlySolution F m (held F before) x
  then_solved {x = x} a =
      subst (λ h. OnlySolution F m h x) a.holds (record { solution = here; only = λ y other. good_solutions a.state y x a.good other here })
    where
      here : Solution F m (holding F a.state) x
      here = step_solves F W m a.state a.good a.step

  then_determined : {before : List (Call K)} {d : K} → At before (determine d) → Determined F m (held F before) d
  then_determined {d = d} a = subst (λ h. Determined F m h d) a.holds (step_determines F W m a.state a.good a.step)

  pub history_holds : (cs : List (Call K)) (s : State K) → History F m cs s → Holds F m cs s
  unfolding judged_column
  history_holds cs s h = record {
    height = good.height;
    valid = good.valid;
    ends = good.ends;
    held_are_those_taken = same;
    factored = subst₂ (λ n h. Factored F n h s.factors) good.height same (holding_factored F W s good.valid);
    independent = subst (λ h. Independent F m h.count h.column) same sound.independent;
    longest = λ n place sel ind.
        independent_no_more F W m (held F cs).count n (held F cs).column _
        (λ j l. subst (λ h. Combines F m h (judged_column F cs (place j))) same
        (judged_combines F W m _ st.judgings (place j) (sel.inside j l))) ind;
    met = (
      sound.assignment,
      λ before j d fine.
          let a = judged_at st d in
          judges_met F W m a.fair.judges fine sound.assignment (meets_before F m sound.assignment a.since sound.meets),
    );
    judged = λ before j d.
        let a = judged_at st d in
        subst (λ k. VerdictHolds F m (held_after F before) k j) same (verdict_holds F W m a.fair a.since sound);
    enquired = λ before q a d. let c = called_at h d in reply_holds F W m (then_sound c) (then_replies c);
    rebuilt = λ before j b t d. then_rebuilt (called_at h d);
    solved = λ before x d. then_solved (called_at h d);
    determined = λ before v d. then_determined (called_at h d);
  }
    where
      st : Stands F m cs s
      st = history_stands F W m h

      good : Good F m s
      good = st.good

      same : holding F s ≡ held F cs
      same = stands_held st

      sound : Sound F m (holding F s)
      sound = good_sound F W m s good

  pub histories_agree : (cs ds : List (Call K)) (s u : State K) → History F m cs s → History F m ds u → questions cs ≡ questions ds
      → Agreement F cs ds
  histories_agree cs ds s u h k e =
      let asked = subst (λ qs. Course F m (nothing F) qs (answers cs) (holding F s)) e st.course in
      let (answered, held) = course_same F W m (questions ds) asked su.course in
      record {
        answered = answered;
        held_same = sym (stands_held st) ∙ held ∙ stands_held su;
        solved = λ p q l o.
            good_solutions u _ _ su.good
            (subst (λ g. Solution F m g (get_or (solutions cs) p (λ i. F.zero))) held (every_at _ (λ i. F.zero) (solutions cs) st.solved p l))
            (every_at _ (λ i. F.zero) (solutions ds) su.solved q o);
        determined = λ p q l o.
            (every_at _ F.zero (determinants cs) st.determined p l).value_is
            ∙ ap (λ (g : Held K). determinant F m g.column) held
            ∙ sym (every_at _ F.zero (determinants ds) su.determined q o).value_is;
      }
    where
      st : Stands F m cs s
      st = history_stands F W m h

      su : Stands F m ds u
      su = history_stands F W m k

pub laws : {K : Type 0} (F : Field K) → Lawful F → Laws F
laws F W = record {
  each = history_holds F W;
  two = histories_agree F W;
  only_stored_counts = stored_equal F;
  panels = panelled_is_in_turn F W;
  cuts = in_turn_cut F;
}
