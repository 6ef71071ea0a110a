-- The same questions, in their common order, get the same answers.
use Rattle.std.proofs.Common.{◌≡◌, ℕ, List, [], ◌∷◌, ◌++◌, sym, refl, ap, ◌∙◌, subst, ap₂}
use Rattle.arithmetic.specs.Fields.{Field, Lawful}
use Rattle.columns.proofs.Alternatives.{never_both}
use Rattle.sets.specs.States.{Verdict, Reply}
use Rattle.sets.specs.States.Verdict.{redundant, clash}
use Rattle.sets.specs.Subject.{Held, Judgement, value, Judges, Replies}
use Rattle.sets.specs.Subject.Judges.{takes, repeats, clashes}
use Rattle.sets.specs.Subject.Replies.{fixes, frees}
use Rattle.sets.specs.Histories.{Question, Answer, shown, told_judgements}
use Rattle.sets.specs.Histories.Question.{offers, enquires}
use Rattle.sets.specs.Histories.Answer.{judged, fixed_at}
use Rattle.sets.proofs.Verdicts.{Sound, Fair, one_combination}
use Rattle.sets.proofs.Courses.{Judgings}
use Rattle.sets.proofs.Courses.Judgings.{none, next}

module _ {K : Type 0} (F : Field K) (m : ℕ) where
  -- questions and their answers, from what is held before to what is held after
  pub data Course : Held K → List (Question K) → List (Answer K) → Held K → Type 0 where
    done : {h : Held K} → Course h [] [] h
    judging : {h g k : Held K} {j : Judgement K} {qs : List (Question K)} {xs : List (Answer K)}
        → Fair F m h j g → Course g qs xs k → Course h (offers j.column j.target ∷ qs) (judged j.verdict ∷ xs) k
    replying : {h k : Held K} {q : ℕ → K} {a : Reply K} {qs : List (Question K)} {xs : List (Answer K)}
        → Sound F m h → Replies F m h q a → Course h qs xs k → Course h (enquires q ∷ qs) (shown a ∷ xs) k

  pub course_on : {h g k : Held K} {ps qs : List (Question K)} {xs ys : List (Answer K)}
      → Course h ps xs g → Course g qs ys k → Course h (ps ++ qs) (xs ++ ys) k
  course_on done r = r
  course_on (judging f p) r = judging f (course_on p r)
  course_on (replying s a p) r = replying s a (course_on p r)

  pub judgings_course : {h k : Held K} {js : List (Judgement K)} → Judgings F m h js k
      → Course h (told_judgements js).questions (told_judgements js).answers k
  unfolding told_judgements
  judgings_course none = done
  judgings_course (next f r) = judging f (judgings_course r)

module _ {K : Type 0} (F : Field K) (W : Lawful F) (m : ℕ) where
  judges_same : {h : Held K} {b : ℕ → K} {t : K} {v u : Verdict K} {g k : Held K}
      → Sound F m h → Judges F m h b t v g → Judges F m h b t u k → (v ≡ u) × (g ≡ k)
  judges_same s (takes n) (takes o) = (refl, refl)
  judges_same s (takes n) (repeats {x = x} k q) = absurd (n (x, k.gives))
  judges_same s (takes n) (clashes {x = x} k q) = absurd (n (x, k.gives))
  judges_same s (repeats {x = x} k q) (takes n) = absurd (n (x, k.gives))
  judges_same {h} {b} s (repeats {x = x} k q) (repeats {x = y} l o) = (ap redundant (one_combination F W m h b x y s k l), refl)
  judges_same {h} {b} s (repeats {x = x} k q) (clashes {x = y} l o) = absurd (o (ap (λ z. value F h z) (one_combination F W m h b y x s l k) ∙ q))
  judges_same s (clashes {x = x} k q) (takes n) = absurd (n (x, k.gives))
  judges_same {h} {b} s (clashes {x = x} k q) (repeats {x = y} l o) = absurd (q (ap (λ z. value F h z) (one_combination F W m h b x y s k l) ∙ o))
  judges_same {h} {b} s (clashes {x = x} k q) (clashes {x = y} l o) = (ap (λ z. clash (value F h z) z) (one_combination F W m h b x y s k l), refl)

  replies_same : {h : Held K} {q : ℕ → K} {a c : Reply K} → Sound F m h → Replies F m h q a → Replies F m h q c → shown a ≡ shown c
  unfolding shown
  replies_same {h} {q} s (fixes {x = x} k) (fixes {x = y} l) = ap (λ z. fixed_at (value F h z) z) (one_combination F W m h q x y s k l)
  replies_same {h} {q} s (fixes {x = x} k) (frees {w = w} l zeros) = absurd (never_both F W m h.count h.column q w l (x, k.gives))
  replies_same {h} {q} s (frees {w = w} l zeros) (fixes {x = x} k) = absurd (never_both F W m h.count h.column q w l (x, k.gives))
  replies_same s (frees k zeros) (frees l others) = refl

  pub course_same : (qs : List (Question K)) {h k l : Held K} {xs ys : List (Answer K)}
      → Course F m h qs xs k → Course F m h qs ys l → (xs ≡ ys) × (k ≡ l)
  course_same [] done done = (refl, refl)
  course_same (offers b t ∷ qs) {l = l} (judging f p) (judging {xs = ys} e q) =
      let (verdicts, held) = judges_same f.before f.judges e.judges in
      let (answers, after) = course_same qs p (subst (λ g. Course F m g qs ys l) (sym held) q) in
      (ap₂ (λ v xs. judged v ∷ xs) verdicts answers, after)
  course_same (enquires c ∷ qs) (replying s a p) (replying t b q) =
      let (answers, after) = course_same qs p q in
      (ap₂ (λ a xs. a ∷ xs) (replies_same s a b) answers, after)
