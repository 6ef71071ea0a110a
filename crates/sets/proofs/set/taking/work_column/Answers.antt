use Rattle.std.proofs.Common.{◌≡◌, length, ap, ◌∙◌, ap₂, arith, rules}
use Rattle.std.proofs.lemmas.Grind.{common_steps}
use Rattle.arithmetic.specs.Runs.{row}
use Rattle.columns.specs.Swaps.{put}
use Rattle.columns.specs.Factors.{worked}
use Rattle.columns.specs.Panels.{cells}
use Rattle.sets.specs.Memory.{packed}
use Rattle.sets.proofs.Packings.{packed_alone}
use Rattle.sets.proofs.Slots.{cells_spliced}
use Rattle.sets.proofs.set.taking.work_column.Goals as goal

pub returns : goal.returns
returns g c =
    let F = g.T.Arithmetic.field.ops in
    let value = g.T.Arithmetic.value in
    let h = c.args.height in
    let r = c.args.rank in
    let xs = c.args.slots.now in
    let ps = c.args.pivots.now in
    let next = c.work_next.new.next in
    let high : length next ≡ h = search rules in
    let works = c.work_next.ensures ∙ ap₂ (worked F) (ap (λ us. packed F value h r us ps) c.split_at_mut-columns.ensures.front ∙ packed_alone F value h r xs ps) (ap (row F value) c.copy_from_slice.ensures.after) in
    cells_spliced F value h r xs next _ (omega arith) high (grind (arith, common_steps)) ∙ ap (λ x. put r x (cells F value h xs)) works
