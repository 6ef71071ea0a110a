use Rattle.std.proofs.Common.{◌≡◌, length}
use Rattle.arithmetic.specs.Runs.{row, dot}
use Rattle.arithmetic.proofs.elements.sum_of_products.Given as goal

-- the sum is that of the places gone over
abbrev pub invariant-loop-x : goal.invariant-loop-x
invariant-loop-x g l =
    let F = g.T.Arithmetic.field.ops in
    let value = g.T.Arithmetic.value in
    value l.sum ≡ dot F (length l.yielded) (row F value l.a) (row F value l.b)
