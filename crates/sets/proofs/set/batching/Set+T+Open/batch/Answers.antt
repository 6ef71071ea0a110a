use Rattle.std.proofs.Common.{◌≡◌, ℕ, ◌+◌, ◌-◌, ◌*◌, ◌≤◌, List, ◌++◌, length, map, take, drop, sym, refl, ap, ◌∙◌, subst, ap₂, arith, mul-le-mul_right}
use Rattle.std.proofs.lemmas.List.{length-take-le, length-map, map-append}
use Rattle.std.proofs.lemmas.Slice.{drop-append-drop}
use Rattle.sets.specs.States.{State, Verdict, verdict_number, listed, in_turn}
use Rattle.sets.specs.Histories.{Step}
use Rattle.sets.specs.Histories.Call.{batch}
use Rattle.sets.specs.Sets.{state}
use Rattle.sets.specs.Batches.{judged_so, offers_in}
use Rattle.sets.proofs.Stores.{stored_height}
use Rattle.sets.proofs.Lists.{length_listed}
use Rattle.sets.proofs.Batching.{part_whole, part_length, spliced, length_in_turn, offer_at, first_in_turn, next_in_turn, batched_step}
use Rattle.sets.proofs.set.batching.Set+T+Open.batch.Goals as goal

pub loop-start-init : goal.loop-start-init
unfolding in_turn listed
loop-start-init g c = (omega arith, refl, refl, refl, refl, refl, refl)

pub batch_panel-requires-clause-counted : goal.batch_panel-requires-clause-counted
batch_panel-requires-clause-counted g c =
    let F = g.T.Arithmetic.field.ops in
    let value = g.T.Arithmetic.value in
    let K = g.T.Arithmetic.field.Carrier in
    let pick = g.C.Chooser.pick c.args.chooser.now in
    let s = c.args.self.now in
    let m = s.unknowns in
    let told = c.in_ok-accept_batch.ensures in
    let (inside, now, written, unknowns, surplus, refusal, beyond) = c.loop-start.invariant in
    let start = c.loop-start.start in
    let n = length c.args.targets.now in
    let end = c.min-end.result in
    part_whole start end m n c.args.columns.now (omega arith) (omega arith) told.counted
    ∙ ap₂ (λ k h. k * h) (sym (part_length start end c.args.targets.now (omega arith) (omega arith))) (sym unknowns)

pub batch_panel-requires-clause-room : goal.batch_panel-requires-clause-room
batch_panel-requires-clause-room g c =
    let F = g.T.Arithmetic.field.ops in
    let value = g.T.Arithmetic.value in
    let K = g.T.Arithmetic.field.Carrier in
    let pick = g.C.Chooser.pick c.args.chooser.now in
    let s = c.args.self.now in
    let m = s.unknowns in
    let told = c.in_ok-accept_batch.ensures in
    let (inside, now, written, unknowns, surplus, refusal, beyond) = c.loop-start.invariant in
    let start = c.loop-start.start in
    let n = length c.args.targets.now in
    let end = c.min-end.result in
    let narrow : (end - start) * m ≤ c.args.width * m = mul-le-mul_right m (omega arith) in
    length-take-le ((end - start) * m) c.loop-start.work (omega (arith, c.loop-start.auto.work, told.room))
    ∙ sym (part_whole start end m n c.args.columns.now (omega arith) (omega arith) told.counted)

pub loop-start-preserved : goal.loop-start-preserved
loop-start-preserved g c =
    let F = g.T.Arithmetic.field.ops in
    let value = g.T.Arithmetic.value in
    let K = g.T.Arithmetic.field.Carrier in
    let pick = g.C.Chooser.pick c.args.chooser.now in
    let s = c.args.self.now in
    let m = s.unknowns in
    let told = c.in_ok-accept_batch.ensures in
    let (inside, now, written, unknowns, surplus, refusal, beyond) = c.loop-start.invariant in
    let start = c.loop-start.start in
    let n = length c.args.targets.now in
    let end = c.min-end.result in
    let le : start ≤ end = omega arith in
    let room : end ≤ n = omega arith in
    let narrow : (end - start) * m ≤ c.args.width * m = mul-le-mul_right m (omega arith) in
    let columns = c.args.columns.now in
    let targets = c.args.targets.now in
    let first = first_in_turn F value pick m columns targets (state F value s) in
    let cs = take (end * m - start * m) (drop (start * m) columns) in
    let ts = take (end - start) (drop start targets) in
    let panel = c.batch_panel.ensures in
    let next = next_in_turn F value pick m columns targets (state F value s) start end le room in
    let long = length-map (first start).0 verdict_number ∙ length_in_turn F pick (state F value s) (listed start (offer_at F value pick m columns targets)) ∙ length_listed start (offer_at F value pick m columns targets) in
    let whole = part_whole start end m n columns le room told.counted in
    let said = panel.verdicts ∙ ap₂ (λ (u : State K) (h : ℕ). map verdict_number (in_turn F pick u (offers_in F value h cs ts)).0) now unknowns in
    let end_is : end ≡ start + (end - start) = omega arith in (
      room,
      panel.state ∙ ap₂ (λ (u : State K) (h : ℕ). (in_turn F pick u (offers_in F value h cs ts)).1) now unknowns ∙ sym (ap (λ (e : List (Verdict K) × State K). e.1) next),
      spliced (map verdict_number (first start).0) c.args.verdicts.now c.loop-start.verdicts c.batch_panel.new.verdicts start (end - start) end written long end_is
          ∙ ap (λ vs. (map verdict_number (first start).0 ++ vs) ++ drop end c.args.verdicts.now) said
          ∙ ap (λ vs. vs ++ drop end c.args.verdicts.now) (sym (map-append verdict_number (first start).0 _) ∙ sym (ap (λ (e : List (Verdict K) × State K). map verdict_number e.0) next)),
      panel.unknowns ∙ unknowns,
      panel.surplus ∙ surplus,
      panel.refusal ∙ refusal,
      drop-append-drop ((end - start) * m) c.loop-start.work c.batch_panel.new.panel (c.args.width * m) narrow (c.batch_panel.auto.panel ∙ length-take-le ((end - start) * m) c.loop-start.work (omega (arith, c.loop-start.auto.work, told.room))) ∙ beyond,
    )

pub returns-clause-judged : goal.returns-clause-judged
returns-clause-judged g c =
    let F = g.T.Arithmetic.field.ops in
    let value = g.T.Arithmetic.value in
    let K = g.T.Arithmetic.field.Carrier in
    let pick = g.C.Chooser.pick c.args.chooser.now in
    let s = c.args.self.now in
    let m = s.unknowns in
    let told = c.in_ok-accept_batch.ensures in
    let (inside, now, written, unknowns, surplus, refusal, beyond) = c.loop-start.invariant in
    let start = c.loop-start.start in
    let n = length c.args.targets.now in
    let columns = c.args.columns.now in
    let targets = c.args.targets.now in
    let first = first_in_turn F value pick m columns targets (state F value s) in
    let all : start ≡ n = omega (arith, c.loop-start-test.false) in
    let after = now ∙ ap (λ k. (first k).1) all in
    record {
      state_after = after;
      verdicts = written ∙ ap (λ k. map verdict_number (first k).0 ++ drop k c.args.verdicts.now) all;
      step = subst (λ u. Step F (state F value s) (batch c.args.width (judged_so (offers_in F value m columns targets) (first n).0)) u) (sym after)
          (batched_step F value pick m columns targets (state F value s) c.args.width (g.met.C.Chooser.lawful c.args.chooser.now) (stored_height F value m s.held _ s.pivots));
      surplus = surplus;
      refusal = refusal;
    }
