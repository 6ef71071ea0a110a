use Rattle.std.proofs.Common.{◌≡◌, ◌<◌, eqb, cond, get_or, take, sym, ap, ◌∙◌, ap₂, arith}
use Rattle.std.proofs.lemmas.List.{length-take-le, get_or-take}
use Rattle.columns.specs.Determinants.{factored_determinant}
use Rattle.columns.specs.Panels.{offsets}
use Rattle.columns.proofs.Places.{joined_low}
use Rattle.sets.specs.Lent.{lent}
use Rattle.sets.specs.Memory.{packed}
use Rattle.sets.proofs.Packings.{entry_inside}
use Rattle.sets.proofs.Signs.{signed, signed_next}
use Rattle.sets.proofs.factors.Factors.determinant.Goals as goal

pub loop-k-init : goal.loop-k-init
unfolding signed
loop-k-init g c = c.one-product.ensures ∙ sym (g.met.T.Arithmetic.lawful.product_one _)

pub loop-k-preserved : goal.loop-k-preserved
unfolding packed
loop-k-preserved g c =
    let F = g.T.Arithmetic.field.ops in
    let W = g.met.T.Arithmetic.lawful in
    let value = g.T.Arithmetic.value in
    let f = c.args.self.now in
    let s = lent F value f in
    let k = c.loop-k.k in
    let long = length-take-le f.rank f.pivots.now f.counted in
    let inside : k < f.rank = omega arith in
    let at : s.offset k ≡ get_or (take f.rank f.pivots.now) k 0 = joined_low f.rank (offsets f.pivots.now) _ k inside ∙ sym (get_or-take f.rank f.pivots.now k 0 inside) in
    c.product-product.ensures
    ∙ ap₂ F.product
    (c.turned.ensures ∙ ap₂ (λ n x. cond (eqb n 0) x (F.negative x)) (sym at) c.loop-k.invariant)
    (c.entry.ensures ∙ sym (entry_inside F value f.height f.rank f.columns.now f.pivots.now k k inside))
    ∙ signed_next F W s.offset s.entry k

pub returns : goal.returns
unfolding packed signed factored_determinant
returns g c =
    let F = g.T.Arithmetic.field.ops in
    let W = g.met.T.Arithmetic.lawful in
    let f = c.args.self.now in
    let s = lent F g.T.Arithmetic.value f in
    let long = length-take-le f.rank f.pivots.now f.counted in
    let all : c.loop-k.k ≡ f.rank = omega arith in
    c.loop-k.invariant ∙ ap (signed F W s.offset s.entry) all
