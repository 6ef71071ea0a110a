use Rattle.std.proofs.Common.{◌≡◌, ◌+◌, ◌≤◌, min, length, sym, ap, ◌∙◌, ap₂, add-one, arith}
use Rattle.std.proofs.lemmas.List.{length-take-le}
use Rattle.columns.specs.Linear.{multiply}
use Rattle.columns.specs.Factors.{lower, upper}
use Rattle.columns.proofs.Factors.{upper_in}
use Rattle.sets.specs.Lent.{lent}
use Rattle.sets.proofs.Packings.{entry_inside, item_cell}
use Rattle.sets.proofs.Products.{product_short}
use Rattle.sets.proofs.factors.Factors.product_entry.Goals as goal

pub loop-k-preserved : goal.loop-k-preserved
loop-k-preserved g c =
    let F = g.T.Arithmetic.field.ops in
    let value = g.T.Arithmetic.value in
    let f = c.args.self.now in
    let s = lent F value f in
    let i = c.args.i in
    let j = c.args.j in
    let k = c.loop-k.k in
    let n = c.min.result + 1 in
    let column = c.column.result.now in
    let high = c.column.ensures.high in
    let short : n ≤ length column = omega (arith, f.fits) in
    let long = length-take-le n column short in
    let factor = item_cell F value f.height f.columns.now column j n k c.factor-item.result c.column.ensures.rows short (omega arith) c.factor-item.is in
    let up = factor ∙ sym (upper_in F s j k (omega arith) ∙ entry_inside F value f.height f.rank f.columns.now f.pivots.now j k (omega arith)) in
    c.sum-sum.ensures
    ∙ ap₂ F.sum c.loop-k.invariant (c.product.ensures ∙ ap₂ F.product c.lower_entry.ensures up)
    ∙ ap (λ n. multiply F n (lower F s) (upper F s) j i) (sym (add-one k))

pub returns : goal.returns
returns g c =
    let F = g.T.Arithmetic.field.ops in
    let f = c.args.self.now in
    let s = lent F g.T.Arithmetic.value f in
    let i = c.args.i in
    let j = c.args.j in
    let long = length-take-le (c.min.result + 1) c.column.result.now (omega (arith, f.fits, c.column.ensures.high)) in
    let all : c.loop-k.k ≡ min i j + 1 = omega arith in
    c.loop-k.invariant
    ∙ ap (λ n. multiply F n (lower F s) (upper F s) j i) all
    ∙ product_short F g.met.T.Arithmetic.lawful s j i f.rank (omega arith)
