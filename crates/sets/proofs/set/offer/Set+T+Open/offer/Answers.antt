use Rattle.std.proofs.Common.{sym, ◌∙◌, ap₂}
use Rattle.sets.specs.States.{picked, decided, offered}
use Rattle.sets.proofs.Refusing.{accepted_lengths}
use Rattle.sets.proofs.Offers.{offered_so}
use Rattle.sets.proofs.set.offer.Set+T+Open.offer.Goals as goal

pub returns-clause-judged : goal.returns-clause-judged
unfolding offered
returns-clause-judged g c =
    let F = g.T.Arithmetic.field.ops in
    let value = g.T.Arithmetic.value in
    let pick = g.C.Chooser.pick c.args.chooser.now in
    let s = c.args.self.now in
    let t = value c.args.target in
    let told = c.work.ensures in
    let said = c.decide.ensures in
    let formula = sym (ap₂ (λ u w. decided F u w t (picked F pick u w)) told.state told.worked) ∙ said.formula in
    let long = (accepted_lengths s.refusal s.unknowns _ _ c.in_ok-accept.ensures).0 in
    offered_so F value pick s c.decide.new.self c.args.column.now c.args.target c.args.answer.now _ _ (g.met.C.Chooser.lawful c.args.chooser.now) long
    formula said.untouched (said.surplus ∙ told.kept.surplus) (said.refusal ∙ told.kept.refusal)
