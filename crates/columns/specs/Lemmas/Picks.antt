-- Each chooser picks what it says, and keeps the law.
use Rattle.std.specs.Prelude.{◌≡◌, ℕ, zero, suc, ◌+◌, ◌<◌, ◌≤◌, Bool, true, false, not, cond, ◌⊎◌, List, [], ◌∷◌, length, Some, None, Option, MatchOption, ◌==◌, nat_lt, slice_index, refl}
use Rattle.std.specs.List.{position, position_from}
use Rattle.std.specs.Option.{option_or}
use Rattle.std.proofs.lemmas.Iterator.Adapters.{position_from-zero}
use Rattle.std.proofs.Common.{sym, ap, subst, ◌∙◌, inl, inr, ⊎_elim, arith, le_of_suc-le-suc}
use Rattle.std.proofs.lemmas.Bool.{eq-eqb, ne_eqb, le-leb, lt-leb, lt-ltb, le-ltb, eqb-true, leb-true, and_parts, and_from, and_left, and_right, cond-true, cond-false, cases_eq, cases_lt, both_ways}
use Rattle.columns.specs.Picks.{Pick, AllZero, NonzeroAt, Fit, LawfulPick, fits, guarded, greatest_from, topmost, greatest, marked, masked, keep_free, IsFirst, IsGreatest, Spares, InWords}

pub cases_map : {P Q : Type 0} {R S : ℕ → Type 0} (o : Option ℕ) → (P → Q) → ((i : ℕ) → R i → S i) → MatchOption o P R → MatchOption o Q S
cases_map None f g h = f h
cases_map (Some i) f g h = g i h

pub guard_on : (f : Pick) (cs us : List ℕ) → Fit cs us → guarded f cs us ≡ f cs us
guard_on f cs us fit = cond-true (fits cs us) (f cs us) None (and_from _ _ (eq-eqb _ _ fit.0) (le-leb _ _ fit.1))

-- what the test of the lists tells
pub fit_by_test : (cs us : List ℕ) (b : Bool) → b ≡ fits cs us → b ≡ true → Fit cs us
fit_by_test cs us b e t =
    let both = and_parts _ _ (sym e ∙ t) in
    (eqb-true _ _ both.0, leb-true _ _ both.1)

-- what is said of an answer is said of its equal
pub said : (cs us : List ℕ) (Of : ℕ → Type 0) {o r : Option ℕ} → r ≡ o → InWords cs us Of o → InWords cs us Of r
said cs us Of e = subst (InWords cs us Of) (sym e)

-- a guarded rule keeps the law where the rule does
pub guard_lawful : (f : Pick) → ((cs us : List ℕ) → Fit cs us → MatchOption (f cs us) (AllZero cs) (NonzeroAt cs)) → LawfulPick (guarded f)
guard_lawful f h = record {
  answers = λ cs us fit. subst (λ (o : Option ℕ). MatchOption o (AllZero cs) (NonzeroAt cs)) (sym (guard_on f cs us fit)) (h cs us fit);
  unequal = λ cs us ne. cond-false (fits cs us) (f cs us) None (and_left _ _ (ne_eqb _ _ ne));
  longer = λ cs us lt. cond-false (fits cs us) (f cs us) None (and_right _ _ (lt-leb _ _ lt));
}

-- Topmost

zero_more : (c : ℕ) (cs : List ℕ) → c ≡ 0 → AllZero cs → AllZero (c ∷ cs)
zero_more c cs z h zero l = z
zero_more c cs z h (suc j) l = h j (le_of_suc-le-suc l)

first_more : (c : ℕ) (cs : List ℕ) (j : ℕ) → c ≡ 0 → IsFirst cs j → IsFirst (c ∷ cs) (suc j)
first_more c cs j z h = record {
  nonzero = (omega (arith, h.nonzero.0), h.nonzero.1);
  zeros_before = before;
}
  where
    before : (k : ℕ) → k < suc j → slice_index (c ∷ cs) k ≡ 0
    before zero l = z
    before (suc k) l = h.zeros_before k (le_of_suc-le-suc l)

first_here : (c : ℕ) (cs : List ℕ) → ¬ (c ≡ 0) → IsFirst (c ∷ cs) 0
first_here c cs n = record { nonzero = (omega arith, n); zeros_before = λ k l. absurd (omega arith) }

abbrev nonzero : ℕ → Bool
nonzero c = not (c == 0)

-- a place counted from k on
From : ℕ → (ℕ → Type 0) → ℕ → Type 0
From k P i = (j : ℕ) × (i ≡ k + j) × P j

first_is : (k : ℕ) (cs : List ℕ) → MatchOption (position_from nonzero k cs) (AllZero cs) (From k (IsFirst cs))
unfolding From
first_is k [] = λ j l. absurd (omega arith)
first_is k (c ∷ cs) =
    let F : Option ℕ → Type 0 = λ o. MatchOption o (AllZero (c ∷ cs)) (From k (IsFirst (c ∷ cs))) in
    ⊎_elim
    (λ z. subst F (sym (cond-false (nonzero c) (Some k) (position_from nonzero (k + 1) cs) (ap not (eq-eqb c 0 z))))
    (cases_map (position_from nonzero (k + 1) cs) (zero_more c cs z) (λ i h. (suc h.0, omega (arith, h.1), first_more c cs h.0 z h.2)) (first_is (k + 1) cs)))
    (λ n. subst F (sym (cond-true (nonzero c) (Some k) (position_from nonzero (k + 1) cs) (ap not (ne_eqb c 0 n)))) (0, omega arith, first_here c cs n))
    (cases_eq c 0)

pub topmost_in_words : (cs us : List ℕ) → InWords cs us (IsFirst cs) (topmost cs us)
unfolding From
topmost_in_words cs us fit =
    subst (λ (o : Option ℕ). MatchOption o (AllZero cs) (IsFirst cs)) (sym (guard_on (λ xs ys. position nonzero xs) cs us fit ∙ position_from-zero nonzero cs))
    (cases_map (position_from nonzero 0 cs) (λ h. h) (λ i h. let e : h.0 ≡ i = omega (arith, h.1) in subst (IsFirst cs) e h.2) (first_is 0 cs))

pub topmost_lawful : LawfulPick topmost
topmost_lawful = guard_lawful (λ cs us. position nonzero cs) (λ cs us fit.
    subst (λ (o : Option ℕ). MatchOption o (AllZero cs) (NonzeroAt cs)) (guard_on (λ xs ys. position nonzero xs) cs us fit)
    (cases_map (topmost cs us) (λ h. h) (λ i h. h.nonzero) (topmost_in_words cs us fit)))

-- Greatest

Low : ℕ → List ℕ → Type 0
Low top cs = (j : ℕ) → j < length cs → slice_index cs j ≤ top

low_more : (top c : ℕ) (cs : List ℕ) → c ≤ top → Low top cs → Low top (c ∷ cs)
unfolding Low
low_more top c cs z h zero l = z
low_more top c cs z h (suc j) l = h j (le_of_suc-le-suc l)

greatest_here : (c : ℕ) (cs : List ℕ) → 0 < c → Low c cs → IsGreatest (c ∷ cs) 0
unfolding Low
greatest_here c cs above low = record {
  nonzero = (omega arith, λ z. omega arith);
  none_greater = low_more c c cs (omega arith) low;
  less_before = λ k l. absurd (omega arith);
}

greatest_more : (c : ℕ) (cs : List ℕ) (j : ℕ) → c < slice_index cs j → IsGreatest cs j → IsGreatest (c ∷ cs) (suc j)
greatest_more c cs j less h = record {
  nonzero = (omega (arith, h.nonzero.0), h.nonzero.1);
  none_greater = all;
  less_before = before;
}
  where
    all : (k : ℕ) → k < length (c ∷ cs) → slice_index (c ∷ cs) k ≤ slice_index cs j
    all zero l = omega arith
    all (suc k) l = h.none_greater k (le_of_suc-le-suc l)

    before : (k : ℕ) → k < suc j → slice_index (c ∷ cs) k < slice_index cs j
    before zero l = less
    before (suc k) l = h.less_before k (le_of_suc-le-suc l)

-- no code is above top, and best stays; or the answer is the greatest, and above top
Great : Option ℕ → ℕ → ℕ → List ℕ → Option ℕ → Type 0
Great best top k cs o = ((o ≡ best) × Low top cs) ⊎ ((j : ℕ) × (o ≡ Some (k + j)) × (top < slice_index cs j) × IsGreatest cs j)

great_take : (best : Option ℕ) (top k c : ℕ) (cs : List ℕ) (o : Option ℕ) → top < c → Great (Some k) c (suc k) cs o → Great best top k (c ∷ cs) o
unfolding Great
great_take best top k c cs o above = ⊎_elim
    (λ h. inr (0, h.0 ∙ ap Some (omega arith), above, greatest_here c cs (omega arith) h.1))
    (λ h. inr (suc h.0, h.1 ∙ ap Some (omega arith), omega (arith, h.2), greatest_more c cs h.0 h.2 h.3))

great_pass : (best : Option ℕ) (top k c : ℕ) (cs : List ℕ) (o : Option ℕ) → c ≤ top → Great best top (suc k) cs o → Great best top k (c ∷ cs) o
unfolding Great
great_pass best top k c cs o under = ⊎_elim
    (λ h. inl (h.0, low_more top c cs under h.1))
    (λ h. inr (suc h.0, h.1 ∙ ap Some (omega arith), h.2, greatest_more c cs h.0 (omega (arith, h.2)) h.3))

great_is : (best : Option ℕ) (top k : ℕ) (cs : List ℕ) → Great best top k cs (greatest_from best top k cs)
unfolding Great Low
great_is best top k [] = inl (refl, λ j l. absurd (omega arith))
great_is best top k (c ∷ cs) =
    let take = greatest_from (Some k) c (suc k) cs in
    let pass = greatest_from best top (suc k) cs in
    ⊎_elim
    (λ above. subst (Great best top k (c ∷ cs)) (sym (cond-true (nat_lt top c) take pass (lt-ltb top c above))) (great_take best top k c cs take above (great_is (Some k) c (suc k) cs)))
    (λ under. subst (Great best top k (c ∷ cs)) (sym (cond-false (nat_lt top c) take pass (le-ltb top c under))) (great_pass best top k c cs pass under (great_is best top (suc k) cs)))
    (cases_lt top c)

pub greatest_in_words : (cs us : List ℕ) → InWords cs us (IsGreatest cs) (greatest cs us)
unfolding Great Low
greatest_in_words cs us fit =
    let F : Option ℕ → Type 0 = λ o. MatchOption o (AllZero cs) (IsGreatest cs) in
    subst F (sym (guard_on (λ xs ys. greatest_from None 0 0 xs) cs us fit))
    (⊎_elim
    (λ h. subst F (sym h.0) (λ j l. omega (arith, h.1 j l)))
    (λ h. subst F (sym (h.1 ∙ ap Some (omega arith))) h.3)
    (great_is None 0 0 cs))

pub greatest_lawful : LawfulPick greatest
greatest_lawful = guard_lawful (λ cs us. greatest_from None 0 0 cs) (λ cs us fit.
    subst (λ (o : Option ℕ). MatchOption o (AllZero cs) (NonzeroAt cs)) (guard_on (λ xs ys. greatest_from None 0 0 xs) cs us fit)
    (cases_map (greatest cs us) (λ h. h) (λ i h. h.nonzero) (greatest_in_words cs us fit)))

-- Keep-free

pub length_masked : (m : List Bool) (cs us : List ℕ) → length (masked m cs us) ≡ length cs
length_masked m [] us = refl
length_masked m (c ∷ cs) [] = ap suc (length_masked m cs [])
length_masked m (c ∷ cs) (u ∷ us) = ap suc (length_masked m cs us)

pub masked_at : (m : List Bool) (cs us : List ℕ) (i : ℕ) → i < length cs → i < length us → slice_index (masked m cs us) i ≡ cond (marked m (slice_index us i)) 0 (slice_index cs i)
masked_at m [] us i h k = absurd (omega arith)
masked_at m (c ∷ cs) [] i h k = absurd (omega arith)
masked_at m (c ∷ cs) (u ∷ us) zero h k = refl
masked_at m (c ∷ cs) (u ∷ us) (suc i) h k = masked_at m cs us i (le_of_suc-le-suc h) (le_of_suc-le-suc k)

module _ (p : Pick) (m : List Bool) (w : LawfulPick p) (cs us : List ℕ) (fit : Fit cs us) where
  -- from the masked codes it picks an unmarked unknown, or all unmarked ones have code 0
  shown : MatchOption (p (masked m cs us) us) (AllZero (masked m cs us)) (NonzeroAt (masked m cs us))
  shown = w.answers (masked m cs us) us (length_masked m cs us ∙ fit.0, omega (arith, length_masked m cs us, fit.1))

  masked_nonzero : (i : ℕ) → NonzeroAt (masked m cs us) i → NonzeroAt cs i × (marked m (slice_index us i) ≡ false)
  masked_nonzero i h =
      let inside : i < length cs = omega (arith, length_masked m cs us, h.0) in
      let at = masked_at m cs us i inside (omega (arith, fit.0)) in
      by_mark (marked m (slice_index us i)) refl at
    where
      by_mark : (b : Bool) → marked m (slice_index us i) ≡ b → slice_index (masked m cs us) i ≡ cond (marked m (slice_index us i)) 0 (slice_index cs i) → NonzeroAt cs i × (b ≡ false)
      by_mark true e at = absurd (h.1 (at ∙ ap (λ b. cond b 0 (slice_index cs i)) e))
      by_mark false e at = ((omega (arith, length_masked m cs us, h.0), λ z. h.1 (at ∙ ap (λ b. cond b 0 (slice_index cs i)) e ∙ z)), refl)

  masked_zero : AllZero (masked m cs us) → (k : ℕ) → k < length cs → marked m (slice_index us k) ≡ false → slice_index cs k ≡ 0
  masked_zero z k l e =
      sym (masked_at m cs us k l (omega (arith, fit.0)) ∙ ap (λ b. cond b 0 (slice_index cs k)) e) ∙ z k (omega (arith, length_masked m cs us))

  abbrev Kept : ℕ → Type 0
  Kept i = NonzeroAt cs i × Spares m cs us i

  both : (o q : Option ℕ) → MatchOption o (AllZero (masked m cs us)) (NonzeroAt (masked m cs us)) → MatchOption q (AllZero cs) (NonzeroAt cs) → MatchOption (option_or o q) (AllZero cs) Kept
  both (Some i) q h k = let n = masked_nonzero i h in (n.0, λ e. absurd (both_ways _ n.1 e))
  both None None h k = k
  both None (Some i) h k = (k, λ e. masked_zero h)

  pub keep_free_kept : MatchOption (option_or (p (masked m cs us) us) (p cs us)) (AllZero cs) Kept
  keep_free_kept = both (p (masked m cs us) us) (p cs us) shown (w.answers cs us fit)

pub keep_free_in_words : (p : Pick) (m : List Bool) → LawfulPick p → (cs us : List ℕ) → InWords cs us (Spares m cs us) (keep_free p m cs us)
keep_free_in_words p m w cs us fit =
    subst (λ (o : Option ℕ). MatchOption o (AllZero cs) (Spares m cs us)) (sym (guard_on (λ xs ys. option_or (p (masked m xs ys) ys) (p xs ys)) cs us fit))
    (cases_map (option_or (p (masked m cs us) us) (p cs us)) (λ h. h) (λ i h. h.1) (keep_free_kept p m w cs us fit))

pub keep_free_lawful : (p : Pick) (m : List Bool) → LawfulPick p → LawfulPick (keep_free p m)
keep_free_lawful p m w = guard_lawful (λ cs us. option_or (p (masked m cs us) us) (p cs us)) (λ cs us fit.
    cases_map (option_or (p (masked m cs us) us) (p cs us)) (λ h. h) (λ i h. h.0) (keep_free_kept p m w cs us fit))
