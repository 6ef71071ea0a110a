use Rattle.std.proofs.Common.{◌+◌, ◌*◌, length, refl, arith, rules}
use Rattle.columns.specs.Panels.{Leaves}
use Rattle.columns.proofs.Panels.{room, upto_more}
use Rattle.columns.proofs.workings.each_column.Given as given
use Rattle.columns.proofs.workings.each_column.Goals as goal

pub offset_bounds-panel-start : goal.offset_bounds-panel-start
offset_bounds-panel-start g c = let p = room c.loop-j.j c.args.height (length c.args.panel.now) c.loop-j-test.true in search rules

pub loop-j-preserved : goal.loop-j-preserved
loop-j-preserved g c =
    let h = c.args.height in
    let j = c.loop-j.j in
    let p = room j h (length c.args.panel.now) c.loop-j-test.true in
    upto_more h (Leaves (given.F-post g c.args.work)) c.args.panel.now c.loop-j.panel c.work.new.arg2 j (j * h + h) refl (omega arith) c.work.auto.arg2 c.loop-j.invariant
    (record { lent = _; back = _; found = refl; met = c.work.ensures; left = refl })
