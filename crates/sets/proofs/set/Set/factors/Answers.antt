use Rattle.std.proofs.Common.{sym, ap, ◌∙◌}
use Rattle.sets.specs.Memory.{packed}
use Rattle.sets.proofs.Stores.{stored_packed}
use Rattle.sets.proofs.set.Set.factors.Goals as goal

pub returns-clause-lent : goal.returns-clause-lent
returns-clause-lent g c =
    let F = g.T.Arithmetic.field.ops in
    let value = g.T.Arithmetic.value in
    let s = c.args.self.now in
    ap (λ xs. packed F value s.unknowns s.held xs s.pivots) c.as_slice.ensures.value ∙ sym (stored_packed F value s.unknowns s.held _ s.pivots)
