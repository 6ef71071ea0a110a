-- A panel of columns worked ahead is judged as one column after another, and offers may be cut anywhere.
use Rattle.std.proofs.Common.{◌≡◌, ℕ, zero, suc, ◌+◌, ◌-◌, ◌<◌, ◌≤◌, List, [], ◌∷◌, ◌++◌, Some, None, Option, sym, refl, ap, ◌∙◌, ap₂, arith}
use mathlib.Core.Path.{fun_ext}
use Rattle.arithmetic.specs.Fields.{Field, Lawful}
use Rattle.columns.specs.Picks.{Pick}
use Rattle.columns.specs.Factors.{worked}
use Rattle.columns.proofs.Takings.{worked_advanced}
use Rattle.sets.specs.States.{State, Offer, Verdict, listed, first_then, picked, decided, offered, in_turn, going_on, panelled}

module _ {K : Type 0} (F : Field K) where
  pub in_turn_cut : (pick : Pick) (s : State K) (os ps : List (Offer K))
      → let o = in_turn F pick s os in let e = in_turn F pick o.1 ps in in_turn F pick s (os ++ ps) ≡ (o.0 ++ e.0, e.1)
  unfolding in_turn first_then
  in_turn_cut pick s [] ps = refl
  in_turn_cut pick s (o ∷ os) ps =
      let d = offered F pick s o.0 o.1 in
      ap (λ (e : List (Verdict K) × State K). (d.0 ∷ e.0, e.1)) (in_turn_cut pick d.1 os ps)

  module _ (pick : Pick) where
    -- the first column w of a panel at target c, then the others x at targets t
    first_judged : ℕ → State K → (ℕ → K) → K → (ℕ → ℕ → K) → (ℕ → K) → List (Verdict K) × State K
    first_judged n s w c x t = let p = picked F pick s w in first_then (decided F s w c p) (λ v. panelled F pick n v (λ j. going_on F s w p (x j)) t)

    -- only the n columns of the panel, and their targets, tell
    pub panelled_same : (n : ℕ) (s : State K) (x y : ℕ → ℕ → K) (t u : ℕ → K) → ((j : ℕ) → j < n → x j ≡ y j) → ((j : ℕ) → j < n → t j ≡ u j) → panelled F pick n s x t ≡ panelled F pick n s y u
    unfolding panelled first_then first_judged
    panelled_same zero s x y t u same targets = refl
    panelled_same (suc n) s x y t u same targets =
        let p = picked F pick s (y 0) in
        let d = decided F s (y 0) (u 0) p in
        ap₂ (λ (w : ℕ → K) (c : K). first_judged n s w c (λ j. x (suc j)) (λ j. t (suc j))) (same 0 (omega arith)) (targets 0 (omega arith))
        ∙ ap (λ (e : List (Verdict K) × State K). (d.0 ∷ e.0, e.1))
        (panelled_same n d.1 _ (λ j. going_on F s (y 0) p (y (suc j))) (λ j. t (suc j)) (λ j. u (suc j))
        (λ j l. ap (going_on F s (y 0) p) (same (suc j) (omega arith))) (λ j l. targets (suc j) (omega arith)))

    -- what is left of a panel of n columns x at targets t from column j on
    abbrev pub remaining : ℕ → ℕ → State K → (ℕ → ℕ → K) → (ℕ → K) → List (Verdict K) × State K
    remaining n j s x t = panelled F pick (n - j) s (λ i. x (j + i)) (λ i. t (j + i))

    pub remaining_all : (n j : ℕ) (s : State K) (x : ℕ → ℕ → K) (t : ℕ → K) → j ≡ 0 → remaining n j s x t ≡ panelled F pick n s x t
    remaining_all n j s x t none =
        let e : n - j ≡ n = omega arith in
        ap (λ k. panelled F pick k s (λ i. x (j + i)) (λ i. t (j + i))) e
        ∙ panelled_same n s _ x _ t (λ i l. let e : j + i ≡ i = omega arith in ap x e) (λ i l. let e : j + i ≡ i = omega arith in ap t e)

    pub remaining_none : (n j : ℕ) (s : State K) (x : ℕ → ℕ → K) (t : ℕ → K) → n ≤ j → remaining n j s x t ≡ ([], s)
    unfolding panelled
    remaining_none n j s x t all = let e : n - j ≡ 0 = omega arith in ap (λ k. panelled F pick k s (λ i. x (j + i)) (λ i. t (j + i))) e

    -- column j, then what is left, y being the later columns brought up to date
    pub remaining_next : (n j : ℕ) (s : State K) (x y : ℕ → ℕ → K) (t : ℕ → K) → j < n
        → let p = picked F pick s (x j) in let d = decided F s (x j) (t j) p in
        ((i : ℕ) → j < i → i < n → y i ≡ going_on F s (x j) p (x i)) → remaining n j s x t ≡ (d.0 ∷ (remaining n (j + 1) d.1 y t).0, (remaining n (j + 1) d.1 y t).1)
    unfolding panelled first_then first_judged
    remaining_next n j s x y t l later =
        let p = picked F pick s (x j) in
        let d = decided F s (x j) (t j) p in
        let k = n - (j + 1) in
        let e : n - j ≡ suc k = omega arith in
        let z : j + 0 ≡ j = omega arith in
        ap (λ m. panelled F pick m s (λ i. x (j + i)) (λ i. t (j + i))) e
        ∙ ap₂ (λ (w : ℕ → K) (c : K). first_judged k s w c (λ i. x (j + suc i)) (λ i. t (j + suc i))) (ap x z) (ap t z)
        ∙ ap (λ (e : List (Verdict K) × State K). (d.0 ∷ e.0, e.1))
        (panelled_same k d.1 _ (λ i. y (j + 1 + i)) _ (λ i. t (j + 1 + i))
        (λ i l. let q : j + suc i ≡ j + 1 + i = omega arith in ap (going_on F s (x j) p) (ap x q) ∙ sym (later (j + 1 + i) (omega arith) (omega arith)))
        (λ i l. let q : j + suc i ≡ j + 1 + i = omega arith in ap t q))

module _ {K : Type 0} (F : Field K) (W : Lawful F) where
  -- whatever the chooser says, a column worked before goes on as if it were worked after
  going_on_is_worked : (s : State K) (b : ℕ → K) (t : K) (o : Option ℕ) (d : ℕ → K)
      → going_on F s (worked F s.factors b) o (worked F s.factors d) ≡ worked F (decided F s (worked F s.factors b) t o).1.factors d
  unfolding going_on decided
  going_on_is_worked s b t None d = refl
  going_on_is_worked s b t (Some q) d = sym (worked_advanced F W s.factors b q d)

  pub panelled_is_in_turn : (pick : Pick) (n : ℕ) (s : State K) (b : ℕ → ℕ → K) (t : ℕ → K)
      → panelled F pick n s (λ j. worked F s.factors (b j)) t ≡ in_turn F pick s (listed n (λ j. (b j, t j)))
  unfolding panelled in_turn first_then listed offered
  panelled_is_in_turn pick zero s b t = refl
  panelled_is_in_turn pick (suc n) s b t =
      ap (λ (e : List (Verdict K) × State K). (o.0 ∷ e.0, e.1))
      (ap (λ (x : ℕ → ℕ → K). panelled F pick n o.1 x (λ j. t (suc j))) (fun_ext (λ j. going_on_is_worked s (b 0) (t 0) p (b (suc j))))
      ∙ panelled_is_in_turn pick n o.1 (λ j. b (suc j)) (λ j. t (suc j)))
    where
      p : Option ℕ
      p = picked F pick s (worked F s.factors (b 0))

      o : Verdict K × State K
      o = decided F s (worked F s.factors (b 0)) (t 0) p
