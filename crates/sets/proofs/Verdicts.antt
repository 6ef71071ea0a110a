-- What one judgement and one reply tell, in the subject's words.
use Rattle.std.proofs.Common.{◌≡◌, ℕ, ◌<◌, ◌≤◌, ◌↔◌, sym, refl, ap, ◌∙◌, subst, arith}
use Rattle.arithmetic.specs.Fields.{Field, Lawful}
use Rattle.arithmetic.specs.Runs.{dot}
use Rattle.columns.specs.Linear.{Independent, Motion}
use Rattle.columns.proofs.Places.{put_at, put_off}
use Rattle.columns.proofs.Sums.{total_cong}
use Rattle.columns.proofs.Combinations.{dot_combine, independent_unique}
use Rattle.columns.proofs.Alternatives.{never_both}
use Rattle.sets.specs.States.{Verdict, Reply}
use Rattle.sets.specs.States.Verdict.{taken, redundant, clash}
use Rattle.sets.specs.States.Reply.{fixed, free}
use Rattle.sets.specs.Subject.{Held, Judgement, keep, IsTaken, IsClash, IsFixed, ZeroFrom}
use Rattle.sets.specs.Subject.{Combination, Combines, value, Meets, Compatible, Judges, Replies}
use Rattle.sets.specs.Subject.Judges.{takes, repeats, clashes}
use Rattle.sets.specs.Subject.Replies.{fixes, frees}
use Rattle.sets.specs.Laws.{OnlyCombination, VerdictHolds, ReplyHolds}
use Rattle.sets.proofs.Parts.{by_parts}

module _ {K : Type 0} (F : Field K) where
  -- the held columns are independent and one assignment meets them
  pub record Sound (m : ℕ) (h : Held K) : Type 0 where
    pub independent : Independent F m h.count h.column
    pub assignment : ℕ → K
    pub meets : Meets F m h assignment

  -- one judgement, sound before and after
  pub record Fair (m : ℕ) (h : Held K) (j : Judgement K) (g : Held K) : Type 0 where
    pub before : Sound m h
    pub after : Sound m g
    pub judges : Judges F m h j.column j.target j.verdict g

-- k holds what g holds, in the same places, and perhaps more
pub record Extends {K : Type 0} (g k : Held K) : Type 0 where
  pub fewer : g.count ≤ k.count
  pub column : (j : ℕ) → j < g.count → k.column j ≡ g.column j
  pub target : (j : ℕ) → j < g.count → k.target j ≡ g.target j

pub extends_itself : {K : Type 0} (h : Held K) → Extends h h
extends_itself h = record { fewer = omega arith; column = λ j l. refl; target = λ j l. refl }

pub extends_all : {K : Type 0} {g h k : Held K} → Extends g h → Extends h k → Extends g k
extends_all p q = record {
  fewer = omega arith;
  column = λ j l. q.column j (omega arith) ∙ p.column j l;
  target = λ j l. q.target j (omega arith) ∙ p.target j l;
}

module _ {K : Type 0} (F : Field K) (m : ℕ) where
  pub judges_keeps : {h : Held K} {b : ℕ → K} {t : K} {v : Verdict K} {g : Held K} → Judges F m h b t v g → g ≡ keep h b t v
  unfolding keep
  judges_keeps (takes n) = refl
  judges_keeps (repeats c e) = refl
  judges_keeps (clashes c e) = refl

  -- later columns stand after those held before
  pub judges_extends : {h : Held K} {b : ℕ → K} {t : K} {v : Verdict K} {g : Held K} → Judges F m h b t v g → Extends h g
  judges_extends {h} {b} {t} (takes n) = record {
    fewer = omega arith;
    column = λ j l. put_off h.count b h.column j (omega arith);
    target = λ j l. put_off h.count t h.target j (omega arith);
  }
  judges_extends {h} (repeats c e) = extends_itself h
  judges_extends {h} (clashes c e) = extends_itself h

  pub meets_before : {g k : Held K} (x : ℕ → K) → Extends g k → Meets F m k x → Meets F m g x
  meets_before x e met j l = ap (λ (c : ℕ → K). dot F m x c) (sym (e.column j l)) ∙ met j (let f = e.fewer in omega arith) ∙ e.target j l

  compatible_before : (g k : Held K) (b : ℕ → K) (t : K) → Extends g k → Compatible F m k b t → Compatible F m g b t
  compatible_before g k b t e (x, met, q) = (x, meets_before x e met, q)

  taken_at_count : {h : Held K} {b : ℕ → K} {t : K} {v : Verdict K} {g : Held K} {p : ℕ} → Judges F m h b t v g → v ≡ taken p → p ≡ h.count
  taken_at_count (takes n) e = cc
  taken_at_count (repeats c q) e = cc
  taken_at_count (clashes c q) e = cc

  shown_moves : {h : Held K} {q w : ℕ → K} → Replies F m h q (free w) → Motion F m h.count h.column q w × ZeroFrom F m w
  shown_moves (frees k zeros) = (k, zeros)

is_clash : {K : Type 0} (v : Verdict K) → Dec (IsClash v)
is_clash (taken p) = no (λ c. c)
is_clash (redundant x) = no (λ c. c)
is_clash (clash v x) = yes tt

module _ {K : Type 0} (F : Field K) (W : Lawful F) (m : ℕ) where
  infixl 70 ◌⊙◌
  open F use {product as ◌⊙◌}

  taken_exactly : {h : Held K} {b : ℕ → K} {t : K} {v : Verdict K} {g : Held K} → Judges F m h b t v g → IsTaken v ↔ ¬ Combines F m h b
  taken_exactly (takes n) = (λ _. n, λ _. tt)
  taken_exactly (repeats {x = x} k e) = (λ c. absurd c, λ n. absurd (n (x, k.gives)))
  taken_exactly (clashes {x = x} k e) = (λ c. absurd c, λ n. absurd (n (x, k.gives)))

  fixed_exactly : {h : Held K} {q : ℕ → K} {a : Reply K} → Replies F m h q a → IsFixed a ↔ Combines F m h q
  fixed_exactly (fixes {x = x} k) = (λ _. (x, k.gives), λ _. tt)
  fixed_exactly {h} {q} (frees {w = w} k zeros) = (λ c. absurd c, λ c. absurd (never_both F W m h.count h.column q w k c))

  -- Clashes.

  -- an assignment that meets the held columns gives a combination its value
  meets_value : (h : Held K) (b c x : ℕ → K) → Meets F m h x → Combination F m h b c → dot F m x b ≡ value F h c
  unfolding value
  meets_value h b c x met k =
      total_cong F m _ _ (λ i l. ap (λ t. x i ⊙ t) (sym (k.gives i l)))
      ∙ dot_combine F W m h.count h.column x c
      ∙ total_cong F h.count _ _ (λ j l. ap (λ t. t ⊙ c j) (met j l))

  -- what meets the columns held after it meets a column that is no clash
  pub judges_met : {h : Held K} {b : ℕ → K} {t : K} {v : Verdict K} {g : Held K} → Judges F m h b t v g → ¬ IsClash v
      → (x : ℕ → K) → Meets F m g x → dot F m x b ≡ t
  judges_met {h} {b} {t} (takes n) fine x met =
      ap (λ (c : ℕ → K). dot F m x c) (sym (put_at h.count b h.column)) ∙ met h.count (omega arith) ∙ put_at h.count t h.target
  judges_met {h} {b} (repeats {x = c} k e) fine x met = meets_value h b c x met k ∙ e
  judges_met (clashes k e) fine x met = absurd (fine tt)

  clash_incompatible : {h : Held K} {b : ℕ → K} {t : K} {v : Verdict K} {g : Held K} → Judges F m h b t v g → IsClash v → ¬ Compatible F m h b t
  clash_incompatible (takes n) c p = absurd c
  clash_incompatible (repeats k e) c p = absurd c
  clash_incompatible {h} {b} (clashes {x = c} k e) _ (x, met, q) = e (sym (meets_value h b c x met k) ∙ q)

  clash_still : {h g k : Held K} {j : Judgement K} → Fair F m h j g → Extends g k → Sound F m k
      → IsClash j.verdict ↔ ¬ Compatible F m k j.column j.target
  clash_still {h} {g} {k} {j} f e s = (λ c p. clash_incompatible f.judges c (before p), λ n. go n (is_clash j.verdict))
    where
      before : Compatible F m k j.column j.target → Compatible F m h j.column j.target
      before = compatible_before F m h k _ _ (extends_all (judges_extends F m f.judges) e)

      go : ¬ Compatible F m k j.column j.target → Dec (IsClash j.verdict) → IsClash j.verdict
      go n (yes c) = c
      go n (no c) = absurd (n (s.assignment, s.meets, judges_met f.judges c s.assignment (meets_before F m s.assignment e s.meets)))

  clash_exactly : {h g : Held K} {j : Judgement K} → Fair F m h j g → IsClash j.verdict ↔ ¬ Compatible F m h j.column j.target
  clash_exactly {h} {g} {j} f = (clash_incompatible f.judges, λ n. (clash_still f (extends_itself g) f.after).1 (λ p. n (before p)))
    where
      before : Compatible F m g j.column j.target → Compatible F m h j.column j.target
      before = compatible_before F m h g _ _ (judges_extends F m f.judges)

  -- The combination shown is the only one.

  pub one_combination : (h : Held K) (b x y : ℕ → K) → Sound F m h → Combination F m h b x → Combination F m h b y → x ≡ y
  one_combination h b x y s p q =
      by_parts h.count x y
      (independent_unique F W m h.count h.column x y s.independent (λ i o. p.gives i o ∙ sym (q.gives i o)))
      (λ j l. p.zeros j l ∙ sym (q.zeros j l))

  only_combination : (h : Held K) (b x : ℕ → K) (v : K) → Sound F m h → Combination F m h b x → value F h x ≡ v → OnlyCombination F m h b v x
  only_combination h b x v s c e = record { combination = c; valued = e; only = λ y d. one_combination h b y x s d c }

  redundant_shown : {h : Held K} {b : ℕ → K} {t : K} {x : ℕ → K} {g : Held K} → Sound F m h → Judges F m h b t (redundant x) g
      → OnlyCombination F m h b t x
  redundant_shown {h} {b} s (repeats {x = x} k e) = only_combination h b x _ s k e

  clash_shown : {h : Held K} {b : ℕ → K} {t v : K} {x : ℕ → K} {g : Held K} → Sound F m h → Judges F m h b t (clash v x) g
      → OnlyCombination F m h b v x × ¬ (v ≡ t)
  clash_shown {h} {b} s (clashes {x = x} k e) = (only_combination h b x _ s k refl, e)

  fixed_shown : {h : Held K} {q x : ℕ → K} {v : K} → Sound F m h → Replies F m h q (fixed v x) → OnlyCombination F m h q v x
  fixed_shown {h} {q} s (fixes {x = x} k) = only_combination h q x _ s k refl

  -- Put together.

  pub verdict_holds : {h g k : Held K} {j : Judgement K} → Fair F m h j g → Extends g k → Sound F m k → VerdictHolds F m h k j
  verdict_holds {h} {g} {k} {j} f e s = record {
    judges = subst (Judges F m h j.column j.target j.verdict) (judges_keeps F m f.judges) f.judges;
    taken_exactly = taken_exactly f.judges;
    taken_place = λ p. taken_at_count F m f.judges;
    clash_exactly = clash_exactly f;
    clash_still = clash_still f e s;
    redundant_shown = λ x q. redundant_shown f.before (called q);
    clash_shown = λ v x q. clash_shown f.before (called q);
  }
    where
      called : {v : Verdict K} → j.verdict ≡ v → Judges F m h j.column j.target v g
      called q = subst (λ v. Judges F m h j.column j.target v g) q f.judges

  pub reply_holds : {h : Held K} {q : ℕ → K} {a : Reply K} → Sound F m h → Replies F m h q a → ReplyHolds F m h q a
  reply_holds {h} {q} s r = record {
    replies = r;
    fixed_exactly = fixed_exactly r;
    fixed_shown = λ v x e. fixed_shown s (subst (Replies F m h q) e r);
    moved = λ w e. shown_moves F m (subst (Replies F m h q) e r);
  }
