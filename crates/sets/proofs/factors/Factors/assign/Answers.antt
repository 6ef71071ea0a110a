use Rattle.std.proofs.Common.{ℕ, ap, ◌∙◌}
use Rattle.arithmetic.specs.Runs.{row}
use Rattle.columns.specs.Swaps.{joined}
use Rattle.columns.specs.Factors.{restored, lower, upper, settled, front, assignment}
use Rattle.sets.specs.Lent.{lent}
use Rattle.sets.specs.Memory.{packed}
use Rattle.sets.proofs.Fronts.{front_alone}
use Rattle.sets.proofs.factors.Factors.assign.Goals as goal

pub returns : goal.returns
unfolding assignment packed
returns g c =
    let F = g.T.Arithmetic.field.ops in
    let value = g.T.Arithmetic.value in
    let f = c.args.self.now in
    let s = lent F value f in
    let r = f.rank in
    let t = row F value c.args.targets.now in
    let settles = c.settle.ensures
    ∙ ap (λ (b : ℕ → g.T.Arithmetic.field.Carrier). settled F (lower F s) f.height b r (joined r (λ i. F.zero) b)) c.substitute.ensures
    ∙ ap (settled F (lower F s) f.height (front F (upper F s) t r) r) (front_alone F (upper F s) t r) in
    c.restore.ensures ∙ ap (restored s) settles
