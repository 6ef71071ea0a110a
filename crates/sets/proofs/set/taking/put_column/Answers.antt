use Rattle.std.proofs.Common.{◌+◌, ◌*◌, ◌≤◌, length, refl, ap, ◌∙◌, arith}
use Rattle.arithmetic.specs.Runs.{row}
use Rattle.columns.specs.Swaps.{put}
use Rattle.columns.specs.Panels.{cells}
use Rattle.sets.proofs.Slots.{cells_lent}
use Rattle.sets.proofs.set.taking.put_column.Goals as goal

pub returns : goal.returns
returns g c =
    let F = g.T.Arithmetic.field.ops in
    let value = g.T.Arithmetic.value in
    let h = c.args.height in
    let r = c.args.rank in
    let xs = c.args.slots.now in
    let ends : r * h + h ≤ length xs = omega (arith, c.requires.stored) in
    let same = c.copy_from_slice.ensures.after in
    cells_lent F value xs c.copy_from_slice.new.self h r (r * h + h) refl ends (ap length same ∙ c.requires.high)
    ∙ ap (λ zs. put r (row F value zs) (cells F value h xs)) same
