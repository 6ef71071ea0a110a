use Rattle.std.proofs.Common.{◌≡◌, ℕ, ◌+◌, ◌-◌, ◌*◌, ◌/◌, ◌<◌, ◌++◌, length, vec_items, sym, refl, ap, ◌∙◌, subst, arith}
use borrow.Rule.Slice.PartMut.{put_mid, same_len_mid}
use Rattle.arithmetic.specs.Runs.{row}
use Rattle.columns.specs.Panels.{column_of, cells}
use Rattle.sets.specs.States.{State, Verdict, verdict_number, picked, going_on}
use Rattle.sets.specs.Sets.{PlaceOfLast, caught_up, state, next_column}
use Rattle.sets.proofs.Stores.{stored_rank}
use Rattle.sets.proofs.Catching.{told_of, place_of_last, caught_up_goes_on}
use Rattle.sets.proofs.Halves.{column_cut, column_after, column_joined, later_inside}
use Rattle.sets.proofs.set.batching.Set+T+Open.judge_next.Goals as goal

pub catch_up-requires : goal.catch_up-requires
catch_up-requires g c =
    let F = g.T.Arithmetic.field.ops in
    let value = g.T.Arithmetic.value in
    let s = c.put.new.self in
    let w = next_column F value s in
    let u = c.decide-verdict.new.self in
    let r = stored_rank F value u.unknowns u.held (vec_items u.memory) u.pivots in
    subst (λ n. PlaceOfLast n c.decide-verdict.result) r
    (place_of_last F value (state F value s) w (value c.args.target) (picked F (g.C.Chooser.pick c.args.chooser.now) (state F value s) w) c.decide-verdict.result c.decide-verdict.new.answer (state F value u) c.decide-verdict.ensures.formula)

pub returns-clause-number : goal.returns-clause-number
returns-clause-number g c =
    let F = g.T.Arithmetic.field.ops in
    let value = g.T.Arithmetic.value in
    let pick = g.C.Chooser.pick c.args.chooser.now in
    let xs = c.args.panel.now in
    let j = c.args.j in
    let s = c.args.self.now in
    let h = s.unknowns in
    let cut = c.split_at_mut-judged.ensures in
    let column = column_cut h j (j * h + h) refl xs c.split_at_mut-judged.result.0.now cut.front (omega arith) in
    let told = told_of F value pick (state F value s) (state F value c.put.new.self) (cells F value h xs j) (next_column F value c.put.new.self) (value c.args.target) c.decide-verdict.result c.decide-verdict.new.answer (state F value c.decide-verdict.new.self)
    c.put.ensures.state (c.put.ensures.next ∙ ap (row F value) column) c.decide-verdict.ensures.formula in
    c.number.ensures c.decide-verdict.new.answer ∙ ap (λ (d : Verdict g.T.Arithmetic.field.Carrier × State g.T.Arithmetic.field.Carrier). verdict_number d.0) (sym told)

pub returns-clause-state : goal.returns-clause-state
returns-clause-state g c =
    let F = g.T.Arithmetic.field.ops in
    let value = g.T.Arithmetic.value in
    let pick = g.C.Chooser.pick c.args.chooser.now in
    let xs = c.args.panel.now in
    let j = c.args.j in
    let s = c.args.self.now in
    let h = s.unknowns in
    let cut = c.split_at_mut-judged.ensures in
    let column = column_cut h j (j * h + h) refl xs c.split_at_mut-judged.result.0.now cut.front (omega arith) in
    let told = told_of F value pick (state F value s) (state F value c.put.new.self) (cells F value h xs j) (next_column F value c.put.new.self) (value c.args.target) c.decide-verdict.result c.decide-verdict.new.answer (state F value c.decide-verdict.new.self)
    c.put.ensures.state (c.put.ensures.next ∙ ap (row F value) column) c.decide-verdict.ensures.formula in
    ap (λ (d : Verdict g.T.Arithmetic.field.Carrier × State g.T.Arithmetic.field.Carrier). d.1) (sym told)

pub returns-clause-later : goal.returns-clause-later
returns-clause-later g c i after l =
    let F = g.T.Arithmetic.field.ops in
    let value = g.T.Arithmetic.value in
    let pick = g.C.Chooser.pick c.args.chooser.now in
    let xs = c.args.panel.now in
    let j = c.args.j in
    let s = c.args.self.now in
    let h = s.unknowns in
    let cut = c.split_at_mut-judged.ensures in
    let column = column_cut h j (j * h + h) refl xs c.split_at_mut-judged.result.0.now cut.front (omega arith) in
    let told = told_of F value pick (state F value s) (state F value c.put.new.self) (cells F value h xs j) (next_column F value c.put.new.self) (value c.args.target) c.decide-verdict.result c.decide-verdict.new.answer (state F value c.decide-verdict.new.self)
    c.put.ensures.state (c.put.ensures.next ∙ ap (row F value) column) c.decide-verdict.ensures.formula in
    let e = j * h + h in
    let k = i - (j + 1) in
    let q : j + 1 + k ≡ i = omega arith in
    let rest = c.split_at_mut-judged.result.1.now in
    let inside : k < length rest / h = subst (λ n. k < n / h) (omega (arith, cut.back_len)) (later_inside h j e refl i (length xs) after l) in
    let v = c.decide-verdict.result in
    let u = state F value c.decide-verdict.new.self in
    let first = c.split_at_mut-judged.result.0.now in
    let answer = c.decide-verdict.new.answer in
    let front = put_mid (j * h) (length first - j * h) first answer in
    let whole = same_len_mid (j * h) (length first - j * h) first answer c.decide-verdict.auto.answer in
    let back = c.catch_up.new.panel in
    let caught = subst (λ h. (k : ℕ) → k < length rest / h → cells F value h back k ≡ caught_up F u.factors v (cells F value h rest k)) (c.decide-verdict.ensures.unknowns ∙ c.put.ensures.kept.unknowns) c.catch_up.ensures in
    let w = cells F value h xs j in
    let p = picked F pick (state F value s) w in
    ap (cells F value h (front ++ back)) (sym q)
    ∙ ap (row F value) (column_joined h j e refl front back k (omega (arith, whole, cut.front_len)))
    ∙ caught k inside
    ∙ caught_up_goes_on F value (state F value s) w (value c.args.target) p v answer u (cells F value h rest k) told
    ∙ ap (going_on F (state F value s) w p) (ap (row F value) (ap (λ ys. column_of h ys k) cut.back ∙ column_after h j e refl xs k) ∙ ap (cells F value h xs) q)
