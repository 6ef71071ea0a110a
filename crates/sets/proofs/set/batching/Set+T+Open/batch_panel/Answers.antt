use Rattle.std.proofs.Common.{◌≡◌, ℕ, ◌/◌, ◌%◌, ◌<◌, List, length, map, sym, refl, ap, ◌∙◌, subst₂}
use native.Mathlib.Nat.{mul-mod_left}
use Rattle.arithmetic.specs.Runs.{row}
use Rattle.columns.specs.Panels.{cells}
use Rattle.columns.specs.Factors.{Packed, worked}
use Rattle.sets.specs.States.{State, Verdict, verdict_number}
use Rattle.sets.specs.Sets.{state}
use Rattle.sets.proofs.Ahead.{panelled_same, panelled_is_in_turn}
use Rattle.sets.proofs.Halves.{column_inside}
use Rattle.sets.proofs.set.batching.Set+T+Open.batch_panel.Goals as goal

pub work_panel-requires : goal.work_panel-requires
work_panel-requires g c =
    let n = length c.args.targets.now in
    let size = c.copy_from_slice.auto.self ∙ c.requires.room ∙ c.requires.counted in
    subst₂ (λ a b. a % b ≡ 0) (sym size) (sym c.factors.ensures.height) (mul-mod_left n c.args.self.now.unknowns)

pub returns-clause-verdicts : goal.returns-clause-verdicts
returns-clause-verdicts g c =
    let F = g.T.Arithmetic.field.ops in
    let value = g.T.Arithmetic.value in
    let K = g.T.Arithmetic.field.Carrier in
    let pick = g.C.Chooser.pick c.args.chooser.now in
    let s = c.args.self.now in
    let h = s.unknowns in
    let n = length c.args.targets.now in
    let xs = c.args.columns.now in
    let t = row F value c.args.targets.now in
    let f = c.factors.result in
    let copied = c.copy_from_slice.new.self in
    let panel = c.work_panel.new.panel in
    let works = subst₂ (λ h (p : Packed K). (j : ℕ) → j < length copied / h → cells F value h panel j ≡ worked F p (cells F value h copied j)) c.factors.ensures.height c.factors.ensures.lent c.work_panel.ensures in
    let size = c.copy_from_slice.auto.self ∙ c.requires.room ∙ c.requires.counted in
    let is : (j : ℕ) → j < n → cells F value h panel j ≡ worked F (state F value s).factors (cells F value h xs j) =
    λ j l. works j (column_inside n h h (length copied) j size refl c.requires.some l) ∙ ap (λ ys. worked F (state F value s).factors (cells F value h ys j)) c.copy_from_slice.ensures.after in
    let agrees = panelled_same F pick n (state F value s) (cells F value h panel) (λ j. worked F (state F value s).factors (cells F value h xs j)) t t is (λ j l. refl)
    ∙ panelled_is_in_turn F g.met.T.Arithmetic.lawful pick n (state F value s) (cells F value h xs) t in
    c.judge_panel.ensures.verdicts ∙ ap (λ (e : List (Verdict K) × State K). map verdict_number e.0) agrees

pub returns-clause-state : goal.returns-clause-state
returns-clause-state g c =
    let F = g.T.Arithmetic.field.ops in
    let value = g.T.Arithmetic.value in
    let K = g.T.Arithmetic.field.Carrier in
    let pick = g.C.Chooser.pick c.args.chooser.now in
    let s = c.args.self.now in
    let h = s.unknowns in
    let n = length c.args.targets.now in
    let xs = c.args.columns.now in
    let t = row F value c.args.targets.now in
    let f = c.factors.result in
    let copied = c.copy_from_slice.new.self in
    let panel = c.work_panel.new.panel in
    let works = subst₂ (λ h (p : Packed K). (j : ℕ) → j < length copied / h → cells F value h panel j ≡ worked F p (cells F value h copied j)) c.factors.ensures.height c.factors.ensures.lent c.work_panel.ensures in
    let size = c.copy_from_slice.auto.self ∙ c.requires.room ∙ c.requires.counted in
    let is : (j : ℕ) → j < n → cells F value h panel j ≡ worked F (state F value s).factors (cells F value h xs j) =
    λ j l. works j (column_inside n h h (length copied) j size refl c.requires.some l) ∙ ap (λ ys. worked F (state F value s).factors (cells F value h ys j)) c.copy_from_slice.ensures.after in
    let agrees = panelled_same F pick n (state F value s) (cells F value h panel) (λ j. worked F (state F value s).factors (cells F value h xs j)) t t is (λ j l. refl)
    ∙ panelled_is_in_turn F g.met.T.Arithmetic.lawful pick n (state F value s) (cells F value h xs) t in
    c.judge_panel.ensures.state ∙ ap (λ (e : List (Verdict K) × State K). e.1) agrees
