use Rattle.std.proofs.Common.{ℕ, sym, ap, ◌∙◌, arith}
use Rattle.arithmetic.proofs.Rows.{row_inside}
use Rattle.sets.proofs.Looked.{copied_found}
use Rattle.sets.proofs.set.Set.target.Goals as goal

pub returns : goal.returns
returns g c =
    let F = g.T.Arithmetic.field.ops in
    let value = g.T.Arithmetic.value in
    let k = c.args.k in
    let xs = c.targets.result.now in
    let told = c.targets.ensures in
    let look = c.get.ensures.lookup in
    rw c.copied.ensures (copied_found xs k _ c.get.result look.3 look.1 (λ l. omega (arith, told.counted))
    (λ x l at. (omega (arith, told.counted), sym (row_inside F value xs k x l at) ∙ ap (λ (t : ℕ → g.T.Arithmetic.field.Carrier). t k) told.values)))
