-- An offer, from what its steps tell.
use Rattle.std.proofs.Common.{◌≡◌, ℕ, ◌+◌, ◌-◌, ◌<◌, ◌≤◌, List, length, Some, None, vec_items, sym, ap, ◌∙◌, ap₂, arith}
use native.Mathlib.Decide.{ℕ_discrete}
use Rattle.std.proofs.lemmas.Option.{MatchOption-at_some}
use Rattle.arithmetic.specs.Fields.{Field, Lawful}
use Rattle.arithmetic.specs.Runs.{row}
use Rattle.columns.specs.Swaps.{choose}
use Rattle.columns.specs.Picks.{Pick, LawfulPick, AllZero, NonzeroAt}
use Rattle.columns.specs.Factors.{combination}
use Rattle.columns.proofs.Places.{choose_yes, choose_no}
use Rattle.columns.proofs.Panels.{row_past}
use Rattle.sets.specs.States.{State, Verdict as Judged, codes, unknowns_in_rows, picked, value_of, repeated, taken_at, decided, offered}
use Rattle.sets.specs.States.Verdict.{taken, redundant, clash}
use Rattle.sets.specs.Histories.Step.{offering}
use Rattle.sets.specs.Sets.{Offered, Untouched, state, surplus, seen}
use Rattle.sets.specs.declared.set.Set.{Set}
use Rattle.sets.specs.declared.verdict.Verdict.{Verdict}
use Rattle.sets.specs.declared.verdict.Verdict.TheVariants.{Taken, Redundant, Clash}
use Rattle.sets.proofs.Lists.{length_listed}
use Rattle.sets.proofs.Stores.{stored_height}

module _ {K : Type 0} (F : Field K) (pick : Pick) (s : State K) where
  -- a lawful pick lies in the rest
  pub picked_inside : (w : ℕ → K) (q : ℕ) → LawfulPick pick → s.factors.height ≤ 96 → s.factors.rank ≤ s.factors.height → Some q ≡ picked F pick s w → s.factors.rank + q < s.factors.height
  unfolding codes unknowns_in_rows picked
  picked_inside w q lawful small le e =
      let cs = codes F s w in
      let us = unknowns_in_rows F s in
      let lc : length cs ≡ s.factors.height - s.factors.rank = length_listed _ _ in
      let lu : length us ≡ s.factors.height - s.factors.rank = length_listed _ _ in
      let h : q < length cs = (MatchOption-at_some (AllZero cs) (NonzeroAt cs) q (sym e) (lawful.answers cs us (lc ∙ sym lu, omega arith))).0 in
      omega arith

  -- the worked column w, taken at place r or repeated
  module _ (w : ℕ → K) (t : K) where
    pub decided_taken : (q place : ℕ) (u : State K) → Some q ≡ picked F pick s w → place ≡ s.factors.rank → u ≡ taken_at F s w t q → decided F s w t (picked F pick s w) ≡ (taken place, u)
    unfolding decided
    decided_taken q place u says at after = ap (decided F s w t) (sym says) ∙ ap₂ {C = Judged K × State K} (λ p v. (taken p, v)) (sym at) (sym after)

    pub decided_repeated : (v : Judged K) → None ≡ picked F pick s w → v ≡ repeated F s (combination F s.factors w) t → decided F s w t (picked F pick s w) ≡ (v, s)
    unfolding decided
    decided_repeated v says verdict = ap (decided F s w t) (sym says) ∙ ap {B = Judged K × State K} (λ p. (p, s)) (sym verdict)

-- the verdict on a combination x, from its value v
module _ {K : Type 0} (F : Field K) (s : State K) (x : ℕ → K) (v t : K) (worth : v ≡ value_of F s x) where
  pub repeated_redundant : v ≡ t → redundant x ≡ repeated F s x t
  unfolding repeated
  repeated_redundant e = sym (choose_yes (ℕ_discrete _ _) _ _ (ap F.code (sym worth ∙ e)))

  pub repeated_clash : Lawful F → ¬ (v ≡ t) → clash v x ≡ repeated F s x t
  unfolding repeated
  repeated_clash W n = ap (λ u. clash u x) worth ∙ sym (choose_no (ℕ_discrete _ _) _ _ (λ e. n (worth ∙ W.code_same _ _ e)))

pub never_taken : {K : Type 0} (j : ℕ) (v : K) (x : ℕ → K) {P : Type 0} (d : Dec P) → ◌≡◌ {A = Judged K} (taken j) (choose d (redundant x) (clash v x)) → ⊥
never_taken j v x (yes h) e = let z : ◌≡◌ {A = ℕ} 0 1 = cc in omega arith
never_taken j v x (no h) e = let z : ◌≡◌ {A = ℕ} 0 1 = cc in omega arith

module _ {K T : Type 0} (F : Field K) (value : T → K) where
  -- the verdict on a combination is no taking
  pub repeated_untouched : (s : State K) (x : ℕ → K) (t : K) (v : Verdict T) (before after : List T) → seen F value v after ≡ repeated F s x t → Untouched v before after
  unfolding repeated
  repeated_untouched s x t (Taken j) before after e = absurd (never_taken j (value_of F s x) x (ℕ_discrete (F.code (value_of F s x)) (F.code t)) e)
  repeated_untouched s x t Redundant before after e = tt
  repeated_untouched s x t (Clash y) before after e = tt

  pub offered_so : {S : Type 0} (pick : Pick) (s u : Set T S) (column : List T) (target : T) (before after : List T) (v : Verdict T) → LawfulPick pick → length column ≡ s.unknowns
      → offered F pick (state F value s) (row F value column) (value target) ≡ (seen F value v after, state F value u) → Untouched v before after → surplus u ≡ surplus s → u.refusal ≡ s.refusal
      → Offered F value pick s column target before u after v
  offered_so pick s u column target before after v lawful long formula untouched surplus refusal = record {
    formula = formula;
    step = offering pick lawful (λ i l. let h = stored_height F value s.unknowns s.held (vec_items s.memory) s.pivots in row_past F value column i (omega arith)) formula;
    untouched = untouched;
    surplus = surplus;
    refusal = refusal;
  }
