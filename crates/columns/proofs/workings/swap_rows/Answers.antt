use Rattle.std.proofs.Common.{ap, ◌∙◌, arith, rules, tests}
use Rattle.std.specs.List.{swap}
use Rattle.columns.proofs.Panels.{swapped_more}
use Rattle.columns.proofs.workings.swap_rows.Goals as goal

pub loop-k-preserved : goal.loop-k-preserved
loop-k-preserved g c =
    let inside = c.requires c.loop-k.k c.loop-k-test.true in
    swapped_more c.args.pivots.now c.args.column.now c.loop-k.column c.swap.new.self c.loop-k.k c.loop-k.invariant (omega (arith, inside)) (omega (arith, inside)) (c.swap.ensures.after ∙ ap (swap c.loop-k.column c.loop-k.k) (search (rules, tests)))
