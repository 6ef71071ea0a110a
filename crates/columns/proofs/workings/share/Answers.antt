use Rattle.std.proofs.Common.{◌+◌, ◌*◌, ◌<◌, length, sym, ap, ◌∙◌, ap₂, add-one, arith, rules, tests}
use Rattle.std.proofs.lemmas.List.{length-take-le, get_or-take}
use Rattle.arithmetic.proofs.Rows.{row_inside}
use Rattle.columns.proofs.Panels.{within, cells_at}
use Rattle.columns.proofs.workings.share.Goals as goal

pub loop-k-preserved : goal.loop-k-preserved
loop-k-preserved g c =
    let F = g.T.Arithmetic.field.ops in
    let value = g.T.Arithmetic.value in
    let k = c.loop-k.k in
    let column = c.args.column.now in
    let h : k < c.args.n = omega (arith, length-take-le c.args.n column (omega arith)) in
    let p : k * length column + c.args.i < length c.args.factors.now = within k c.args.i c.args.n _ _ h (omega arith) (omega arith) in
    let x = cells_at F value c.args.factors.now (length column) k c.args.i _ (omega arith) p c.index-factors-at.is in
    let y = row_inside F value column k c.x-item.result (omega arith) (c.x-item.is ∙ get_or-take c.args.n column k c.x-item.result h) in
    rw add-one (c.sum-sum.ensures ∙ ap₂ F.sum c.loop-k.invariant (c.product.ensures ∙ ap₂ F.product (sym x) (ap value (search (rules, tests)) ∙ sym y)))
