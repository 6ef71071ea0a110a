use Rattle.std.proofs.Common.{◌≡◌, ℕ, ◌+◌, ◌<◌, sym, refl, ap, ◌∙◌, ap₂, arith}
use Rattle.arithmetic.specs.Runs.{row}
use Rattle.arithmetic.proofs.Rows.{row_inside}
use Rattle.columns.specs.Swaps.{exchange}
use Rattle.columns.specs.Panels.{offsets}
use Rattle.columns.proofs.Places.{joined_low, joined_high}
use Rattle.columns.proofs.Panels.{row_past, cells_past, places_exchanged}
use Rattle.columns.proofs.Swaps.{exchange_else}
use Rattle.sets.specs.Lent.{lent}
use Rattle.sets.specs.Memory.{packed}
use Rattle.sets.specs.Workings.{stepped}
use Rattle.sets.proofs.Runs.{row_written}
use Rattle.sets.proofs.Slots.{row_moved}
use Rattle.sets.proofs.Packings.{entry_inside}
use Rattle.sets.proofs.Stepped.{stepped_none, stepped_after, stepped_all}
use Rattle.sets.proofs.factors.Factors.advance.Goals as goal

pub loop-i-init : goal.loop-i-init
unfolding packed
loop-i-init g c =
    let F = g.T.Arithmetic.field.ops in
    let value = g.T.Arithmetic.value in
    let f = c.args.self.now in
    let r = c.args.r in
    let s = lent F value f in
    let start = c.args.column.now in
    let x = row F value start in
    let o = offsets f.pivots.now r in
    let held : r < f.rank = omega (arith, c.requires.last) in
    let inside = f.inside r held in
    let fits = f.fits in
    let at : o ≡ s.offset r = sym (joined_low f.rank (offsets f.pivots.now) (λ k. 0) r held) in
    row_moved F value start c.swap.new.self (exchange r (r + o)) (places_exchanged start c.swap.new.self r (r + o) (omega (arith, c.requires.high)) (omega (arith, c.requires.high)) c.swap.ensures.after)
    ∙ ap {B = ℕ → g.T.Arithmetic.field.Carrier} (λ n i. x (exchange r (r + n) i)) at
    ∙ sym (stepped_none F s r x (r + 1) refl)

pub loop-i-preserved : goal.loop-i-preserved
unfolding packed
loop-i-preserved g c =
    let F = g.T.Arithmetic.field.ops in
    let value = g.T.Arithmetic.value in
    let f = c.args.self.now in
    let r = c.args.r in
    let i = c.loop-i.i in
    let s = lent F value f in
    let start = c.args.column.now in
    let swapped = c.swap.new.self in
    let x = row F value start in
    let o = offsets f.pivots.now r in
    let held : r < f.rank = omega (arith, c.requires.last) in
    let inside = f.inside r held in
    let fits = f.fits in
    let at : o ≡ s.offset r = sym (joined_low f.rank (offsets f.pivots.now) (λ k. 0) r held) in
    let b : ℕ → g.T.Arithmetic.field.Carrier = λ j. x (exchange r (r + s.offset r) j) in
    let moved : row F value swapped ≡ b =
    row_moved F value start swapped (exchange r (r + o)) (places_exchanged start swapped r (r + o) (omega (arith, c.requires.high)) (omega (arith, c.requires.high)) c.swap.ensures.after)
    ∙ ap {B = ℕ → g.T.Arithmetic.field.Carrier} (λ n i. x (exchange r (r + n) i)) at in
    let xs = c.loop-i.column in
    let old = sym (row_inside F value xs i c.index-column-i.result (omega arith) c.index-column-i.is) ∙ ap (λ (a : ℕ → g.T.Arithmetic.field.Carrier). a i) c.loop-i.invariant ∙ joined_high i (stepped F s r x) b i (omega arith) in
    let top = sym (row_inside F value swapped r c.index-column-r.result (omega (arith, c.requires.high, c.swap.auto.self)) c.index-column-r.is) ∙ ap (λ (a : ℕ → g.T.Arithmetic.field.Carrier). a r) moved in
    let factor = c.entry.ensures ∙ sym (entry_inside F value f.height f.rank f.columns.now f.pivots.now r i held) in
    row_written F value xs i c.difference.result (stepped F s r x) b (omega arith)
    (c.difference.ensures ∙ ap₂ (λ a p. F.sum a (F.negative p)) old (c.product.ensures ∙ ap₂ F.product factor top) ∙ sym (stepped_after F s r x i (omega arith)))
    c.loop-i.invariant

pub returns : goal.returns
unfolding packed
returns g c =
    let F = g.T.Arithmetic.field.ops in
    let value = g.T.Arithmetic.value in
    let f = c.args.self.now in
    let r = c.args.r in
    let m = f.height in
    let s = lent F value f in
    let start = c.args.column.now in
    let held : r < f.rank = omega (arith, c.requires.last) in
    let inside = f.inside r held in
    let fits = f.fits in
    let at : offsets f.pivots.now r ≡ s.offset r = sym (joined_low f.rank (offsets f.pivots.now) (λ k. 0) r held) in
    c.loop-i.invariant
    ∙ stepped_all F s r (row F value start) g.met.T.Arithmetic.lawful c.loop-i.i m (omega (arith, c.requires.high)) (omega arith)
    (λ j l. ap (row F value start) (exchange_else r (r + s.offset r) j (omega arith) (omega arith)) ∙ row_past F value start j (omega (arith, c.requires.high)))
    (λ j l. entry_inside F value m f.rank f.columns.now f.pivots.now r j held ∙ cells_past F value f.columns.now m r j l)
