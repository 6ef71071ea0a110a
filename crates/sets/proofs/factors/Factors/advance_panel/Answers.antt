use Rattle.std.proofs.Common.{◌≡◌, ◌+◌, ◌*◌, length, refl, arith, rules}
use Rattle.arithmetic.specs.Runs.{row}
use Rattle.columns.proofs.Panels.{room, upto_more}
use Rattle.sets.specs.Lent.{lent}
use Rattle.sets.specs.Workings.{stepped}
use Rattle.sets.proofs.factors.Factors.advance_panel.Goals as goal

pub offset_bounds-panel-start : goal.offset_bounds-panel-start
offset_bounds-panel-start g c = let p = room c.loop-j.j c.args.self.now.height (length c.args.panel.now) c.loop-j-test.true in search rules

pub loop-j-preserved : goal.loop-j-preserved
loop-j-preserved g c =
    let F = g.T.Arithmetic.field.ops in
    let value = g.T.Arithmetic.value in
    let f = c.args.self.now in
    let h = f.height in
    let j = c.loop-j.j in
    let p = room j h (length c.args.panel.now) c.loop-j-test.true in
    upto_more h (λ before after. row F value after ≡ stepped F (lent F value f) c.args.r (row F value before)) c.args.panel.now c.loop-j.panel c.advance.new.column j (j * h + h) refl (omega arith) c.advance.auto.column c.loop-j.invariant c.advance.ensures
