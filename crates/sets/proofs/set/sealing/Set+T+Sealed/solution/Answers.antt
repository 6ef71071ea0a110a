use Rattle.std.proofs.Common.{◌≡◌, ◌∙◌, ap₂, arith}
use Rattle.columns.specs.Factors.{assignment}
use Rattle.sets.specs.States.{solution}
use Rattle.sets.specs.Memory.{packed, stored}
use Rattle.sets.specs.Sets.{state}
use Rattle.sets.proofs.Asked.{solution_promises}
use Rattle.sets.proofs.Refusing.{accepted_full}
use Rattle.sets.proofs.set.sealing.Set+T+Sealed.solution.Goals as goal

pub returns-clause-solved : goal.returns-clause-solved
unfolding stored packed solution
returns-clause-solved g c =
    let F = g.T.Arithmetic.field.ops in
    let value = g.T.Arithmetic.value in
    let s = c.args.self.now in
    let made = c.assign.ensures ∙ ap₂ (assignment F) c.factors.ensures.lent c.targets.ensures.values in
    let enough = accepted_full s.refusal s.unknowns s.held c.in_ok-accept_full.ensures in
    let few = s.few in
    let full : s.held ≡ s.unknowns = omega arith in
    solution_promises F g.met.T.Arithmetic.lawful value (state F value s) c.assign.new.positions full made
