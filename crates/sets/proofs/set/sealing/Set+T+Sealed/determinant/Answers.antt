use Rattle.std.proofs.Common.{◌≡◌, ap, ◌∙◌, arith}
use Rattle.columns.specs.Determinants.{factored_determinant}
use Rattle.sets.specs.Memory.{packed, stored}
use Rattle.sets.specs.Sets.{state}
use Rattle.sets.proofs.Asked.{determinant_promises}
use Rattle.sets.proofs.Refusing.{accepted_full}
use Rattle.sets.proofs.set.sealing.Set+T+Sealed.determinant.Goals as goal

pub returns-clause-determined : goal.returns-clause-determined
unfolding stored packed
returns-clause-determined g c =
    let F = g.T.Arithmetic.field.ops in
    let value = g.T.Arithmetic.value in
    let s = c.args.self.now in
    let enough = accepted_full s.refusal s.unknowns s.held c.in_ok-accept_full.ensures in
    let few = s.few in
    let full : s.held ≡ s.unknowns = omega arith in
    determinant_promises F g.met.T.Arithmetic.lawful value (state F value s) c.determinant.result full (c.determinant.ensures ∙ ap (factored_determinant F) c.factors.ensures.lent)
