use Rattle.std.proofs.Common.{◌≡◌, ℕ, suc, ◌+◌, ◌<◌, List, [], ◌∷◌, ◌++◌, length, map, take, set, sym, ap, ◌∙◌, ap₂, arith}
use Rattle.std.proofs.lemmas.List.{append_assoc, append-nil, take_all}
use lib.Seq.{take-suc-set}
use Rattle.arithmetic.specs.Runs.{row}
use Rattle.arithmetic.proofs.Rows.{row_inside}
use Rattle.columns.specs.Panels.{cells}
use Rattle.sets.specs.States.{State, Verdict, verdict_number, picked, decided, going_on}
use Rattle.sets.specs.Sets.{state, surplus}
use Rattle.sets.proofs.Ahead.{remaining, remaining_none, remaining_next}
use Rattle.sets.proofs.Halves.{column_inside}
use Rattle.sets.proofs.set.batching.Set+T+Open.judge_panel.Goals as goal

pub judge_next-requires : goal.judge_next-requires
judge_next-requires g c =
    let (so, unknowns, surplus, refusal) = c.loop-j.invariant in
    column_inside (length c.args.targets.now) c.args.self.now.unknowns c.loop-j.self.unknowns (length c.loop-j.panel) c.loop-j.j (c.loop-j.auto.panel ∙ c.requires.counted) unknowns c.requires.some c.loop-j-test.true

pub loop-j-preserved : goal.loop-j-preserved
loop-j-preserved g c =
    let F = g.T.Arithmetic.field.ops in
    let K = g.T.Arithmetic.field.Carrier in
    let value = g.T.Arithmetic.value in
    let pick = g.C.Chooser.pick c.args.chooser.now in
    let (so, unknowns, surplus, refusal) = c.loop-j.invariant in
    let told = c.judge_next.ensures in
    let n = length c.args.targets.now in
    let j = c.loop-j.j in
    let t = row F value c.args.targets.now in
    let s = state F value c.loop-j.self in
    let h = c.loop-j.self.unknowns in
    let x = cells F value h c.loop-j.panel in
    let back = c.judge_next.new.panel in
    let y = cells F value h back in
    let vs = c.loop-j.verdicts in
    let v = c.judge_next.result in
    let decide : K → Verdict K × State K = λ u. decided F s (x j) u (picked F pick s (x j)) in
    let rest : State K → List (Verdict K) × State K = λ u. remaining F pick n (j + 1) u y t in
    let whole : Verdict K × State K → List (Verdict K) × State K = λ d. (d.0 ∷ (rest d.1).0, (rest d.1).1) in
    let at : t j ≡ value c.index-targets-j.result = row_inside F value c.args.targets.now j c.index-targets-j.result c.loop-j-test.true c.index-targets-j.is in
    let later : (i : ℕ) → j < i → i < n → y i ≡ going_on F s (x j) (picked F pick s (x j)) (x i) =
    λ i after l. told.later i after (column_inside n c.args.self.now.unknowns h (length c.loop-j.panel) i (c.loop-j.auto.panel ∙ c.requires.counted) unknowns c.requires.some l) in
    let next = remaining_next F pick n j s x y t c.loop-j-test.true later ∙ ap (λ u. whole (decide u)) at in
    let q : suc j ≡ j + 1 = omega arith in
    let written : take (j + 1) (set vs j v) ≡ take j vs ++ (v ∷ []) = ap (λ k. take k (set vs j v)) (sym q) ∙ take-suc-set vs j v (omega (arith, c.loop-j.auto.verdicts, c.requires.listed)) in (
      record {
        verdicts =
            so.verdicts ∙ ap (λ (e : List (Verdict K) × State K). take j vs ++ map verdict_number e.0) next
            ∙ ap₂ (λ (k : ℕ) (u : State K). take j vs ++ (k ∷ map verdict_number (rest u).0)) (sym told.number) (sym told.state)
            ∙ sym (append_assoc (take j vs) (v ∷ []) _) ∙ ap (λ ws. ws ++ map verdict_number (rest (state F value c.judge_next.new.self)).0) (sym written)
            ∙ ap (λ m. take (j + 1) (set vs j v) ++ map verdict_number (remaining F pick n (j + 1) (state F value c.judge_next.new.self) (cells F value m back) t).0) (sym told.unknowns);
        state =
            so.state ∙ ap (λ (e : List (Verdict K) × State K). e.1) next ∙ ap (λ (u : State K). (rest u).1) (sym told.state)
            ∙ ap (λ m. (remaining F pick n (j + 1) (state F value c.judge_next.new.self) (cells F value m back) t).1) (sym told.unknowns);
      },
      told.unknowns ∙ unknowns,
      told.surplus ∙ surplus,
      told.refusal ∙ refusal,
    )

pub returns-clause-verdicts : goal.returns-clause-verdicts
returns-clause-verdicts g c =
    let F = g.T.Arithmetic.field.ops in
    let value = g.T.Arithmetic.value in
    let (so, unknowns, surplus, refusal) = c.loop-j.invariant in
    let t = row F value c.args.targets.now in
    let j = c.loop-j.j in
    let over = remaining_none F (g.C.Chooser.pick c.args.chooser.now) (length c.args.targets.now) j (state F value c.loop-j.self) (cells F value c.loop-j.self.unknowns c.loop-j.panel) t (omega (arith, c.loop-j-test.false)) in
    sym (so.verdicts ∙ ap₂ (λ vs (e : List (Verdict g.T.Arithmetic.field.Carrier) × State g.T.Arithmetic.field.Carrier). vs ++ map verdict_number e.0) (take_all j c.loop-j.verdicts (omega (arith, c.loop-j.auto.verdicts, c.requires.listed))) over ∙ append-nil c.loop-j.verdicts)

pub returns-clause-state : goal.returns-clause-state
returns-clause-state g c =
    let F = g.T.Arithmetic.field.ops in
    let value = g.T.Arithmetic.value in
    let (so, unknowns, surplus, refusal) = c.loop-j.invariant in
    let t = row F value c.args.targets.now in
    let j = c.loop-j.j in
    let over = remaining_none F (g.C.Chooser.pick c.args.chooser.now) (length c.args.targets.now) j (state F value c.loop-j.self) (cells F value c.loop-j.self.unknowns c.loop-j.panel) t (omega (arith, c.loop-j-test.false)) in
    sym (so.state ∙ ap (λ (e : List (Verdict g.T.Arithmetic.field.Carrier) × State g.T.Arithmetic.field.Carrier). e.1) over)
