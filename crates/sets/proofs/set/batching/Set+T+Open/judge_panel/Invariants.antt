use Rattle.std.proofs.Common.{◌≡◌, ℕ, List, ◌++◌, length, map, take}
use Rattle.arithmetic.specs.Runs.{row}
use Rattle.columns.specs.Panels.{cells}
use Rattle.sets.specs.States.{State, Verdict, verdict_number, panelled}
use Rattle.sets.specs.Sets.{state, surplus}
use Rattle.sets.proofs.Ahead.{remaining}
use Rattle.sets.proofs.set.batching.Set+T+Open.judge_panel.Given as goal

-- the verdicts written, then those of what is left, are those of the whole panel
pub record Underway {K : Type 0} (whole left : List (Verdict K) × State K) (j : ℕ) (written : List ℕ) : Type 0 where
  pub verdicts : map verdict_number whole.0 ≡ take j written ++ map verdict_number left.0
  pub state : whole.1 ≡ left.1

abbrev pub invariant-loop-j : goal.invariant-loop-j
invariant-loop-j g l =
    let F = g.T.Arithmetic.field.ops in
    let value = g.T.Arithmetic.value in
    let pick = g.C.Chooser.pick l.chooser in
    let n = length l.targets in
    let s = l.initial.self in
    let t = row F value l.targets in
    Underway (panelled F pick n (state F value s) (cells F value s.unknowns l.initial.panel) t) (remaining F pick n l.j (state F value l.self) (cells F value l.self.unknowns l.panel) t) l.j l.verdicts
    × (l.self.unknowns ≡ s.unknowns) × (surplus l.self ≡ surplus s) × (l.self.refusal ≡ s.refusal)
