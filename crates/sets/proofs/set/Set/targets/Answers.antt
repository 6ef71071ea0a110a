use Rattle.std.proofs.Common.{◌≡◌, ◌+◌, ◌-◌, ◌*◌, take, drop, vec_items, ◌∙◌, ap₂, arith}
use Rattle.arithmetic.specs.Runs.{row}
use Rattle.sets.proofs.Stores.{stored_targets}
use Rattle.sets.proofs.set.Set.targets.Goals as goal

pub returns-clause-values : goal.returns-clause-values
returns-clause-values g c =
    let F = g.T.Arithmetic.field.ops in
    let value = g.T.Arithmetic.value in
    let s = c.args.self.now in
    let start = (s.unknowns + 1) * s.unknowns in
    let size : start + s.held - start ≡ s.held = omega arith in
    ap₂ (λ n xs. row F value (take n (drop start xs))) size c.as_slice.ensures.value
    ∙ stored_targets F value s.unknowns s.held (vec_items s.memory) s.pivots s.few
