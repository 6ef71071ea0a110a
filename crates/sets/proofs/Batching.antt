-- Columns judged by panels, as so many offers in turn.
use Rattle.std.proofs.Common.{◌≡◌, ℕ, zero, suc, ◌+◌, ◌-◌, ◌*◌, ◌<◌, ◌≤◌, List, [], ◌∷◌, ◌++◌, length, take, drop, sym, refl, ap, ◌∙◌, ap₂, arith, append_assoc, drop-drop, length-take, length-drop}
use native.Mathlib.Nat.{add-mul, mul-le-mul_right}
use borrow.Rule.Slice.PartMut.{put_mid}
use Rattle.std.proofs.lemmas.List.{take_at, drop_at}
use Rattle.arithmetic.specs.Fields.{Field}
use Rattle.arithmetic.specs.Runs.{row}
use Rattle.columns.specs.Picks.{Pick, LawfulPick}
use Rattle.columns.specs.Panels.{cells}
use Rattle.columns.proofs.Panels.{ends, cells_past}
use Rattle.sets.specs.States.{State, Offer, Verdict, listed, first_then, offered, in_turn}
use Rattle.sets.specs.Subject.{ZeroFrom}
use Rattle.sets.specs.Histories.{Step, AllZeroFrom, offers_of, verdicts_of}
use Rattle.sets.specs.Histories.Call.{batch}
use Rattle.sets.specs.Histories.Step.{batching}
use Rattle.sets.specs.Batches.{judged_so, offers_in}
use Rattle.sets.proofs.Lists.{listed_same, listed_cut}
use Rattle.sets.proofs.Runs.{row_take, row_drop}
use Rattle.sets.proofs.Slots.{cells_front}
use Rattle.sets.proofs.Halves.{column_from}
use Rattle.sets.proofs.Ahead.{in_turn_cut}

-- the part of k runs of m elements each that goes from run a to before run e
pub part_whole : {X : Type 0} (a e m k : ℕ) (xs : List X) → a ≤ e → e ≤ k → length xs ≡ k * m → length (take (e * m - a * m) (drop (a * m) xs)) ≡ (e - a) * m
part_whole a e m k xs le room long =
    let n = e - a in
    let more : (a + n) * m ≡ e * m = let p : a + n ≡ e = omega arith in ap (λ i. i * m) p in
    let high : e * m ≤ k * m = mul-le-mul_right m room in
    length-take (e * m - a * m) (drop (a * m) xs) ∙ omega (arith, length-drop (a * m) xs, more, add-mul a n m)

pub part_length : {X : Type 0} (a e : ℕ) (xs : List X) → a ≤ e → e ≤ length xs → length (take (e - a) (drop a xs)) ≡ e - a
part_length a e xs le room = length-take (e - a) (drop a xs) ∙ omega (arith, length-drop a xs)

-- a list whose first part is written and whose next k elements are ys
pub spliced : {X : Type 0} (first start_list now ys : List X) (a k e : ℕ) → now ≡ first ++ drop a start_list → length first ≡ a → e ≡ a + k → put_mid a k now ys ≡ (first ++ ys) ++ drop e start_list
spliced first old now ys a k e is long end =
    ap (λ xs. put_mid a k xs ys) is
    ∙ ap₂ (λ us vs. us ++ (ys ++ drop k vs)) (take_at first (drop a old) a long) (drop_at first (drop a old) a long)
    ∙ ap (λ vs. first ++ (ys ++ vs)) (drop-drop k a old ∙ ap (λ n. drop n old) (sym end))
    ∙ sym (append_assoc first ys (drop e old))

module _ {K : Type 0} (F : Field K) where
  pub length_in_turn : (pick : Pick) (s : State K) (os : List (Offer K)) → length (in_turn F pick s os).0 ≡ length os
  unfolding in_turn first_then
  length_in_turn pick s [] = refl
  length_in_turn pick s (o ∷ os) = ap suc (length_in_turn pick (offered F pick s o.0 o.1).1 os)

  offers_back : (os : List (Offer K)) (vs : List (Verdict K)) → length vs ≡ length os → offers_of (judged_so os vs) ≡ os
  unfolding offers_of
  offers_back [] vs e = refl
  offers_back (o ∷ os) [] e = absurd (omega arith)
  offers_back (o ∷ os) (v ∷ vs) e = ap (λ ps. o ∷ ps) (offers_back os vs (omega arith))

  verdicts_back : (os : List (Offer K)) (vs : List (Verdict K)) → length vs ≡ length os → verdicts_of (judged_so os vs) ≡ vs
  unfolding verdicts_of
  verdicts_back [] [] e = refl
  verdicts_back [] (v ∷ vs) e = absurd (omega arith)
  verdicts_back (o ∷ os) [] e = absurd (omega arith)
  verdicts_back (o ∷ os) (v ∷ vs) e = ap (λ us. v ∷ us) (verdicts_back os vs (omega arith))

  zeros_listed : (m n : ℕ) (f : ℕ → Offer K) (vs : List (Verdict K)) → ((j : ℕ) → ZeroFrom F m (f j).0) → AllZeroFrom F m (judged_so (listed n f) vs)
  unfolding listed
  zeros_listed m zero f vs zeros = tt
  zeros_listed m (suc n) f [] zeros = tt
  zeros_listed m (suc n) f (v ∷ vs) zeros = (zeros 0, zeros_listed m n (λ j. f (suc j)) vs (λ j. zeros (suc j)))

module _ {K T : Type 0} (F : Field K) (value : T → K) (pick : Pick) (m : ℕ) (columns targets : List T) where
  abbrev pub offer_at : ℕ → Offer K
  offer_at j = (cells F value m columns j, row F value targets j)

  -- the first n columns judged in turn
  abbrev pub first_in_turn : State K → ℕ → List (Verdict K) × State K
  first_in_turn s n = in_turn F pick s (listed n offer_at)

  -- the columns a to e - 1, judged in turn after those before them
  pub next_in_turn : (s : State K) (a e : ℕ) → a ≤ e → e ≤ length targets
      → let d = in_turn F pick (first_in_turn s a).1 (offers_in F value m (take (e * m - a * m) (drop (a * m) columns)) (take (e - a) (drop a targets))) in
      first_in_turn s e ≡ ((first_in_turn s a).0 ++ d.0, d.1)
  next_in_turn s a e le room = ap (in_turn F pick s) (ap (λ n. listed n offer_at) more ∙ listed_cut a k offer_at ∙ ap (λ os. listed a offer_at ++ os) part) ∙ in_turn_cut F pick s (listed a offer_at) (offers_in F value m cs ts)
    where
      k : ℕ
      k = e - a

      cs : List T
      cs = take (e * m - a * m) (drop (a * m) columns)

      ts : List T
      ts = take k (drop a targets)

      more : e ≡ a + k
      more = omega arith

      counted : length ts ≡ k
      counted = length-take k (drop a targets) ∙ omega (arith, length-drop a targets)

      column : (j : ℕ) → j < k → cells F value m columns (a + j) ≡ cells F value m cs j
      column j l =
          let ending = ends (a + j) e m (omega arith) in
          sym (cells_front F value (drop (a * m) columns) (e * m - a * m) m j (omega (arith, ending, add-mul a j m))
          ∙ ap (row F value) (column_from m a (a * m) refl columns j))

      target : (j : ℕ) → j < k → row F value targets (a + j) ≡ row F value ts j
      target j l = sym (row_take F value k (drop a targets) j l ∙ row_drop F value a targets j)

      part : listed k (λ j. offer_at (a + j)) ≡ offers_in F value m cs ts
      part = listed_same k _ _ (λ j l. ap₂ (λ b t. (b, t)) (column j l) (target j l)) ∙ ap (λ n. listed n (λ j. (cells F value m cs j, row F value ts j))) (sym counted)

  pub batched_step : (s : State K) (width : ℕ) → LawfulPick pick → s.factors.height ≡ m
      → Step F s (batch width (judged_so (offers_in F value m columns targets) (first_in_turn s (length targets)).0)) (first_in_turn s (length targets)).1
  batched_step s width lawful high =
      let os = offers_in F value m columns targets in
      let e = first_in_turn s (length targets) in
      let long = length_in_turn F pick s os in
      batching pick (record {
        lawful = lawful;
        zeros = zeros_listed F s.factors.height (length targets) _ e.0 (λ j i l. cells_past F value columns m j i (omega arith));
        result = ap (in_turn F pick s) (offers_back F os e.0 long) ∙ ap (λ vs. (vs, e.1)) (sym (verdicts_back F os e.0 long));
      })
