-- Workings that are not refused.
use Rattle.std.proofs.Common.{◌≡◌, ℕ, suc, ◌+◌, ◌*◌, ◌%◌, ◌<◌, ◌≤◌, true, cond, List, [], ◌∷◌, length, get_or, take, Some, None, Ok, Err, Option, Result, refl, ap, ◌∙◌, ap₂, arith, MatchResult}
use native.Mathlib.Nat.{mod_self}
use Rattle.std.specs.Result.{result_err}
use Rattle.std.proofs.lemmas.List.{get_or-take, length-take-le}
use Rattle.std.proofs.lemmas.Bool.{lt-ltb, le-leb, eq-eqb, and_from}
use Rattle.columns.specs.Panels.{PivotsInside, whole, inside_from, swap_refusal, factor_refusal}
use Rattle.columns.specs.declared.refusal.Refusal.TheVariants.{Length, Place}
use Rattle.sets.specs.Pivots.{PivotsWithin}

-- without a refusal, what an Ok says
pub accepted : {T E A : Type 0} {o : Option E} (Q : E → Type 0) (r : Result T E) → result_err r ≡ o → o ≡ None → MatchResult r (λ _. A) Q → A
accepted Q (Ok x) e n h = h
accepted Q (Err d) e n h = let z : ◌≡◌ {A = ℕ} 0 1 = cc in absurd (omega arith)

-- the first r pivots of a list
pub first_inside : (m r : ℕ) (pivots : List ℕ) → r ≤ length pivots → PivotsWithin m r pivots → PivotsInside m (take r pivots)
first_inside m r pivots held inside k l =
    let long = length-take-le r pivots held in
    let k< : k < r = omega arith in
    omega (arith, inside k k<, get_or-take r pivots k 0 k<)

-- pivots that stay within the height pass the test
inside_true : (h k : ℕ) (os : List ℕ) → ((j : ℕ) → j < length os → k + j + get_or os j 0 < h) → inside_from h k os ≡ true
inside_true h k [] inside = refl
inside_true h k (o ∷ os) inside =
    and_from _ _ (lt-ltb (k + o) h (omega (arith, inside 0 (omega arith)))) (inside_true h (suc k) os (λ j l. omega (arith, inside (suc j) (omega arith))))

-- a panel of whole columns
pub swap_whole : (size m : ℕ) (pivots : List ℕ) → size % m ≡ 0 → PivotsInside m pivots → swap_refusal size m pivots ≡ None
swap_whole size m pivots e inside =
    ap₂ (λ a b. cond a (cond b None (Some Place)) (Some Length)) (eq-eqb (size % m) 0 e) (inside_true m 0 pivots (λ j l. omega (arith, inside j l)))

pub factor_whole : (factors m r size : ℕ) → factors ≡ r * m → r ≤ m → size % m ≡ 0 → factor_refusal factors m r size ≡ None
factor_whole factors m r size e le whole =
    ap (λ b. cond b None (Some Length)) (and_from _ _ (and_from _ _ (le-leb r m le) (eq-eqb factors (r * m) e)) (eq-eqb (size % m) 0 whole))

-- a run of m elements is whole at height m
one_whole : (size m : ℕ) → size ≡ m → size % m ≡ 0
one_whole size m e = ap (λ n. n % m) e ∙ mod_self m

pub swap_accepted : (m : ℕ) (pivots : List ℕ) → PivotsInside m pivots → swap_refusal m m pivots ≡ None
swap_accepted m pivots = swap_whole m m pivots (one_whole m m refl)

pub factor_accepted : (factors m r size : ℕ) → factors ≡ r * m → r ≤ m → size ≡ m → factor_refusal factors m r size ≡ None
factor_accepted factors m r size e le one = factor_whole factors m r size e le (one_whole size m one)
