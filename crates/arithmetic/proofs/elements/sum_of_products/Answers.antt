use Rattle.std.proofs.Common.{sym, ◌∙◌, ap₂, add-one, rules, arith, length-append}
use Rattle.std.proofs.lemmas.List.{take_all}
use Rattle.std.proofs.lemmas.Slice.Zip.{zip_turn}
use Rattle.arithmetic.proofs.Rows.{row_inside}
use Rattle.arithmetic.proofs.elements.sum_of_products.Goals as goal

pub loop-x-preserved : goal.loop-x-preserved
loop-x-preserved g c =
    let F = g.T.Arithmetic.field.ops in
    let value = g.T.Arithmetic.value in
    let a = c.args.a.now in
    let b = c.args.b.now in
    let x = c.in-Some.x.now in
    let y = c.in-Some.y.now in
    let at = zip_turn a b c.loop-x.yielded c.into_iter-x-iterator.result c.loop-x.x-iterator c.next.new.self c.next.result (search (rules, arith, take_all)) (search (rules, arith, take_all)) c.loop-x.yielded_by _ c.in-Some.is c.next.ensures.steps in
    rw (length-append, add-one)
    (c.sum-sum.ensures
    ∙ ap₂ F.sum c.loop-x.invariant (c.product.ensures ∙ ap₂ F.product (sym (row_inside F value a _ x at.0 (at.2 x))) (sym (row_inside F value b _ y at.1 (at.3 y)))))
