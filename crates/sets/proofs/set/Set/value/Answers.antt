use Rattle.std.proofs.Common.{◌≡◌, min, length, vec_items, sym, ap, ◌∙◌, ap₂, arith}
use Rattle.arithmetic.specs.Runs.{row, dot}
use Rattle.sets.specs.States.{value_of}
use Rattle.sets.specs.Sets.{state}
use Rattle.sets.proofs.Stores.{stored_rank}
use Rattle.sets.proofs.set.Set.value.Goals as goal

pub returns : goal.returns
unfolding value_of
returns g c =
    let F = g.T.Arithmetic.field.ops in
    let value = g.T.Arithmetic.value in
    let s = c.args.self.now in
    let x = row F value c.args.combination.now in
    let both : min (length c.targets.result.now) (length c.args.combination.now) ≡ s.held = omega (arith, c.targets.ensures.counted) in
    c.sum_of_products.ensures
    ∙ ap₂ (λ n t. dot F n t x) both c.targets.ensures.values
    ∙ ap (λ n. dot F n (state F value s).target x) (sym (stored_rank F value s.unknowns s.held (vec_items s.memory) s.pivots))
