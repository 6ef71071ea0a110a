use Rattle.std.proofs.Common.{vec_items, sym, ◌∙◌, arith}
use Rattle.columns.specs.Factors.{combination}
use Rattle.sets.specs.Sets.{state, next_column}
use Rattle.sets.proofs.Stores.{stored_height, stored_rank}
use Rattle.sets.proofs.Offers.{picked_inside, decided_taken, decided_repeated, repeated_untouched}
use Rattle.sets.proofs.set.offer.Set+T+Open.decide.Goals as goal

pub take-requires : goal.take-requires
take-requires g c =
    let F = g.T.Arithmetic.field.ops in
    let value = g.T.Arithmetic.value in
    let s = c.args.self.now in
    let h = stored_height F value s.unknowns s.held (vec_items s.memory) s.pivots in
    let r = stored_rank F value s.unknowns s.held (vec_items s.memory) s.pivots in
    let inside = picked_inside F (g.C.Chooser.pick c.args.chooser.now) (state F value s) (next_column F value s) c.in-Some.q (g.met.C.Chooser.lawful c.args.chooser.now) (omega (arith, s.size)) (omega (arith, s.few)) c.in-Some.ensures in
    omega arith

pub returns-in-Some-clause-formula : goal.returns-in-Some-clause-formula
returns-in-Some-clause-formula g c =
    let F = g.T.Arithmetic.field.ops in
    let value = g.T.Arithmetic.value in
    let s = c.args.self.now in
    decided_taken F (g.C.Chooser.pick c.args.chooser.now) (state F value s) (next_column F value s) (value c.args.target) c.in-Some.q c.take.result _ c.in-Some.ensures
    (c.take.ensures.place ∙ sym (stored_rank F value s.unknowns s.held (vec_items s.memory) s.pivots)) c.take.ensures.state

pub returns-in-None-clause-formula : goal.returns-in-None-clause-formula
returns-in-None-clause-formula g c =
    let F = g.T.Arithmetic.field.ops in
    let value = g.T.Arithmetic.value in
    let s = c.args.self.now in
    decided_repeated F (g.C.Chooser.pick c.args.chooser.now) (state F value s) (next_column F value s) (value c.args.target) _ c.in-None.ensures c.account.ensures

pub returns-in-None-clause-untouched : goal.returns-in-None-clause-untouched
returns-in-None-clause-untouched g c =
    let F = g.T.Arithmetic.field.ops in
    let value = g.T.Arithmetic.value in
    let s = state F value c.args.self.now in
    repeated_untouched F value s (combination F s.factors (next_column F value c.args.self.now)) (value c.args.target) c.account.result _ _ c.account.ensures
