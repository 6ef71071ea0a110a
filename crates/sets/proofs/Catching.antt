-- What a verdict makes of the columns worked before it.
use Rattle.std.proofs.Common.{◌≡◌, ℕ, ◌+◌, List, Some, None, Option, sym, refl, ap, ◌∙◌, ap₂, arith}
use mathlib.Core.Path.{fun_ext}
use native.Mathlib.Decide.{ℕ_discrete, dec_lt}
use Rattle.arithmetic.specs.Fields.{Field}
use Rattle.columns.specs.Swaps.{choose, exchange}
use Rattle.columns.specs.Factors.{Packed, turned, divided, extended, advanced, combination}
use Rattle.columns.proofs.Places.{put_at}
use Rattle.columns.proofs.Swaps.{exchange_left}
use Rattle.columns.specs.Picks.{Pick}
use Rattle.sets.specs.States.{State, Verdict as Judged, picked, value_of, repeated, taken_at, decided, going_on}
use Rattle.sets.specs.States.Verdict.{taken}
use Rattle.sets.specs.Workings.{stepped}
use Rattle.sets.specs.Sets.{PlaceOfLast, caught_up, seen}
use Rattle.sets.specs.declared.verdict.Verdict.{Verdict}
use Rattle.sets.specs.declared.verdict.Verdict.TheVariants.{Taken, Redundant, Clash}
use Rattle.sets.proofs.Offers.{never_taken}

module _ {K : Type 0} (F : Field K) where
  infixl 65 ◌⊕◌
  infixl 70 ◌⊙◌
  infix 80 ⊖◌
  open F use {sum as ◌⊕◌, negative as ⊖◌, product as ◌⊙◌}

  -- the step by the column just taken is the one that its taking calls for
  pub stepped_is_advanced : (s : Packed K) (w : ℕ → K) (q : ℕ) (x : ℕ → K) → stepped F (extended F s w q) s.rank x ≡ advanced F s w q x
  unfolding stepped advanced turned
  stepped_is_advanced s w q x = fun_ext (λ i. at i)
    where
      y : ℕ → ℕ → K
      y o i = x (exchange s.rank (s.rank + o) i)

      at : (i : ℕ) → stepped F (extended F s w q) s.rank x i ≡ advanced F s w q x i
      at i =
          ap (λ (o : ℕ). choose (dec_lt s.rank i) (y o i ⊕ ⊖ ((extended F s w q).entry s.rank i ⊙ y o s.rank)) (y o i)) (put_at s.rank q s.offset)
          ∙ ap₂ (λ (e z : K). choose (dec_lt s.rank i) (y q i ⊕ ⊖ (e ⊙ z)) (y q i))
          (ap (λ (d : ℕ → K). d i) (put_at s.rank (divided F s w q) (λ j i. s.entry j (exchange s.rank (s.rank + q) i))))
          (ap x (exchange_left s.rank (s.rank + q) s.rank refl))

module _ {K T : Type 0} (F : Field K) (value : T → K) (s : State K) (w : ℕ → K) (t : K) where
  -- what is told of the column w, by what the chooser said
  abbrev pub Tells : Option ℕ → Verdict T → List T → State K → Type 0
  Tells p v answer u = decided F s w t p ≡ (seen F value v answer, u)

  never_none : (j : ℕ) (answer : List T) (u : State K) → Tells None (Taken j) answer u → ⊥
  unfolding decided repeated
  never_none j answer u e =
      let x = combination F s.factors w in
      never_taken j (value_of F s x) x (ℕ_discrete (F.code (value_of F s x)) (F.code t)) (sym (ap (λ (d : Judged K × State K). d.0) e))

  place : (q j : ℕ) (answer : List T) (u : State K) → Tells (Some q) (Taken j) answer u → j ≡ s.factors.rank
  unfolding decided
  place q j answer u e = let d : taken s.factors.rank ≡ taken j = ap (λ (d : Judged K × State K). d.0) e in cc d

  after : (q : ℕ) (v : Verdict T) (answer : List T) (u : State K) → Tells (Some q) v answer u → taken_at F s w t q ≡ u
  unfolding decided
  after q v answer u e = ap (λ (d : Judged K × State K). d.1) e

  always_taken : (q : ℕ) (v : Verdict T) (answer : List T) (u : State K) → Tells (Some q) v answer u → taken s.factors.rank ≡ seen F value v answer
  unfolding decided
  always_taken q v answer u e = ap (λ (d : Judged K × State K). d.0) e

  pub place_of_last : (p : Option ℕ) (v : Verdict T) (answer : List T) (u : State K) → Tells p v answer u → PlaceOfLast u.factors.rank v
  place_of_last None (Taken j) answer u e = absurd (never_none j answer u e)
  place_of_last (Some q) (Taken j) answer u e = let p = place q j answer u e in let r = ap (λ (s : State K). s.factors.rank) (after q (Taken j) answer u e) in omega (arith, p, r)
  place_of_last p Redundant answer u e = tt
  place_of_last p (Clash x) answer u e = tt

  pub caught_up_goes_on : (p : Option ℕ) (v : Verdict T) (answer : List T) (u : State K) (x : ℕ → K) → Tells p v answer u → caught_up F u.factors v x ≡ going_on F s w p x
  unfolding going_on
  caught_up_goes_on None (Taken j) answer u x e = absurd (never_none j answer u e)
  caught_up_goes_on None Redundant answer u x e = refl
  caught_up_goes_on None (Clash y) answer u x e = refl
  caught_up_goes_on (Some q) (Taken j) answer u x e =
      ap₂ (λ (g : Packed K) (r : ℕ). stepped F g r x) (sym (ap (λ (s : State K). s.factors) (after q (Taken j) answer u e))) (place q j answer u e)
      ∙ stepped_is_advanced F s.factors w q x
  caught_up_goes_on (Some q) Redundant answer u x e = let d = always_taken q Redundant answer u e in let z : ◌≡◌ {A = ℕ} 0 1 = cc d in absurd (omega arith)
  caught_up_goes_on (Some q) (Clash y) answer u x e = let d = always_taken q (Clash y) answer u e in let z : ◌≡◌ {A = ℕ} 0 1 = cc d in absurd (omega arith)

-- told of equal columns at equal states
pub told_of : {K T : Type 0} (F : Field K) (value : T → K) (pick : Pick) (s z : State K) (w x : ℕ → K) (t : K) (v : Verdict T) (answer : List T) (u : State K)
    → z ≡ s → x ≡ w → decided F z x t (picked F pick z x) ≡ (seen F value v answer, u) → decided F s w t (picked F pick s w) ≡ (seen F value v answer, u)
told_of F value pick s z w x t v answer u same column e = sym (ap₂ (λ z x. decided F z x t (picked F pick z x)) same column) ∙ e
