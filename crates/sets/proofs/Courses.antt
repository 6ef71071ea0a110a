-- Judgements one after another, in the subject's words.
use Rattle.std.proofs.Common.{◌≡◌, ℕ, zero, suc, ◌<◌, ◌≤◌, ◌⊎◌, List, [], ◌∷◌, ◌++◌, length, get_or, sym, refl, ap, ◌∙◌, subst, inl, inr, arith}
use Rattle.arithmetic.specs.Fields.{Field, Lawful}
use Rattle.arithmetic.specs.Runs.{dot}
use Rattle.columns.specs.Linear.{CombinationOf, Motion}
use Rattle.columns.proofs.Places.{put_at}
use Rattle.columns.proofs.Combinations.{unit, combine_unit}
use Rattle.columns.proofs.Alternatives.{either, never_both}
use Rattle.columns.proofs.Dimension.{independent_no_more}
use Rattle.sets.specs.States.{Verdict}
use Rattle.sets.specs.Subject.{Held, hold, Judgement, kept, Combines, Judges}
use Rattle.sets.specs.Subject.Judges.{takes, repeats, clashes}
use Rattle.sets.proofs.Verdicts.{Sound, Fair, Extends, extends_itself, extends_all, judges_keeps, judges_extends}

-- from what is held before these judgements to what is held after them
pub data Judgings {K : Type 0} (F : Field K) (m : ℕ) : Held K → List (Judgement K) → Held K → Type 0 where
  none : {h : Held K} → Judgings F m h [] h
  next : {h g k : Held K} {j : Judgement K} {js : List (Judgement K)} → Fair F m h j g → Judgings F m g js k → Judgings F m h (j ∷ js) k

module _ {K : Type 0} (F : Field K) (m : ℕ) where
  pub judgings_on : {h g k : Held K} {is js : List (Judgement K)} → Judgings F m h is g → Judgings F m g js k → Judgings F m h (is ++ js) k
  judgings_on none r = r
  judgings_on (next f q) r = next f (judgings_on q r)

  pub judgings_keep : {h k : Held K} {js : List (Judgement K)} → Judgings F m h js k → k ≡ kept h js
  unfolding kept
  judgings_keep none = refl
  judgings_keep (next {js = js} f r) = judgings_keep r ∙ ap (λ g. kept g js) (judges_keeps F m f.judges)

  judgings_extend : {h k : Held K} {js : List (Judgement K)} → Judgings F m h js k → Extends h k
  judgings_extend {h} none = extends_itself h
  judgings_extend (next f r) = extends_all (judges_extends F m f.judges) (judgings_extend r)

  -- one of the judgements: fair on what was held then, and nothing is lost after it
  pub judged_then : (before after : List (Judgement K)) (j : Judgement K) {h k : Held K}
      → Judgings F m h (before ++ (j ∷ after)) k → (g : Held K) × Fair F m (kept h before) j g × Extends g k
  unfolding kept
  judged_then [] after j (next f r) = (_, f, judgings_extend r)
  judged_then (i ∷ before) after j (next f r) =
      let (g, fair, e) = judged_then before after j r in
      (g, subst (λ h. Fair F m (kept h before) j g) (judges_keeps F m f.judges) fair, e)

module _ {K : Type 0} (F : Field K) (W : Lawful F) (m : ℕ) where
  -- a combination of columns held before is one of those held later
  combines_later : (g k : Held K) (b : ℕ → K) → Extends g k → Combines F m g b → Combines F m k b
  combines_later g k b e c = go (either F W m k.count k.column b)
    where
      rests_before : (w : ℕ → K) → Motion F m k.count k.column b w → Motion F m g.count g.column b w
      rests_before w n = record {
        rests = λ j l. ap (λ (a : ℕ → K). dot F m w a) (sym (e.column j l)) ∙ n.rests j (let f = e.fewer in omega arith);
        moves = n.moves;
      }

      go : CombinationOf F m k.count k.column b ⊎ ((w : ℕ → K) × Motion F m k.count k.column b w) → Combines F m k b
      go (inl d) = d
      go (inr (w, n)) = absurd (never_both F W m g.count g.column b w (rests_before w n) c)

  -- a column held is a combination of the held ones
  combines_held : (h : Held K) (p : ℕ) → p < h.count → Combines F m h (h.column p)
  combines_held h p l = go (either F W m h.count h.column (h.column p))
    where
      go : CombinationOf F m h.count h.column (h.column p) ⊎ ((w : ℕ → K) × Motion F m h.count h.column (h.column p) w)
          → Combines F m h (h.column p)
      go (inl d) = d
      go (inr (w, n)) = absurd (W.apart (sym (n.rests p l) ∙ n.moves))

  judges_combines : {h : Held K} {b : ℕ → K} {t : K} {v : Verdict K} {g : Held K} → Judges F m h b t v g → Combines F m g b
  judges_combines {h} {b} {t} (takes n) =
      subst (λ (c : ℕ → K). Combines F m (hold h b t) c) (put_at h.count b h.column) (combines_held (hold h b t) h.count (omega arith))
  judges_combines (repeats {x = x} c e) = (x, c.gives)
  judges_combines (clashes {x = x} c e) = (x, c.gives)

  -- every judged column is a combination of those held in the end
  pub judged_combines : {h k : Held K} {js : List (Judgement K)} (d : Judgement K) → Judgings F m h js k
      → (p : ℕ) → p < length js → Combines F m k (get_or js p d).column
  judged_combines d none p l = absurd (omega arith)
  judged_combines d (next {g = g} {k = k} {j = j} f r) zero l = combines_later g k j.column (judgings_extend F m r) (judges_combines f.judges)
  judged_combines d (next f r) (suc p) l = judged_combines d r p (omega arith)

  -- Nothing is taken once the columns are as many as the unknowns.

  independent_fit : (h : Held K) → Sound F m h → h.count ≤ m
  independent_fit h s =
      independent_no_more F W m m h.count (unit F) h.column (λ j l. (h.column j, λ i o. combine_unit F W m i (h.column j) o)) s.independent

  full_judges : {h : Held K} {b : ℕ → K} {t : K} {v : Verdict K} {g : Held K} → Judges F m h b t v g → Sound F m g → h.count ≡ m → g ≡ h
  full_judges {h} {b} {t} (takes n) s full = let l = independent_fit (hold h b t) s in absurd (omega arith)
  full_judges (repeats c e) s full = refl
  full_judges (clashes c e) s full = refl

  pub full_stays : {h k : Held K} {js : List (Judgement K)} → Judgings F m h js k → h.count ≡ m → k ≡ h
  full_stays none full = refl
  full_stays (next f r) full = let e = full_judges f.judges f.after full in full_stays r (ap (λ g. g.count) e ∙ full) ∙ e
