use Rattle.std.proofs.Common.{ℕ, ◌<◌, sym, ap, ◌∙◌, arith}
use Rattle.arithmetic.proofs.Rows.{row_inside}
use Rattle.columns.specs.Factors.{rebuilt}
use Rattle.sets.specs.Memory.{packed, stored}
use Rattle.sets.specs.Sets.{state}
use Rattle.sets.proofs.Asked.{rebuilt_promises}
use Rattle.sets.proofs.set.Set.rebuild.Goals as goal

pub returns-clause-rebuilt : goal.returns-clause-rebuilt
unfolding stored packed
returns-clause-rebuilt g c =
    let F = g.T.Arithmetic.field.ops in
    let value = g.T.Arithmetic.value in
    let k = c.args.place in
    let targets = c.targets.result.now in
    let inside : k < c.args.self.now.held = omega arith in
    let column = c.rebuild.ensures ∙ ap (λ u. rebuilt F u k) c.factors.ensures.lent in
    let target = sym (row_inside F value targets k c.index-targets-place.result (omega (arith, c.targets.ensures.counted)) c.index-targets-place.is)
    ∙ ap (λ (t : ℕ → g.T.Arithmetic.field.Carrier). t k) c.targets.ensures.values in
    rebuilt_promises F g.met.T.Arithmetic.lawful value (state F value c.args.self.now) k c.rebuild.new.run c.index-targets-place.result inside column target
