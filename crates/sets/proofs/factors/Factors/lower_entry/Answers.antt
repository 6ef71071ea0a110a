use Rattle.std.proofs.Common.{◌≡◌, sym, ap, ◌∙◌, arith}
use Rattle.columns.specs.Factors.{lower}
use Rattle.columns.proofs.Factors.{lower_below, lower_on}
use Rattle.sets.specs.Lent.{lent}
use Rattle.sets.proofs.Packings.{entry_inside}
use Rattle.sets.proofs.factors.Factors.lower_entry.Goals as goal

pub returns-then-k-i : goal.returns-then-k-i
returns-then-k-i g c =
    let F = g.T.Arithmetic.field.ops in
    let value = g.T.Arithmetic.value in
    let s = c.args.self.now in
    c.entry.ensures ∙ sym (lower_below F (lent F value s) c.args.k c.args.i (omega arith) ∙ entry_inside F value s.height s.rank s.columns.now s.pivots.now c.args.k c.args.i (omega arith))

pub returns-else-k-i : goal.returns-else-k-i
returns-else-k-i g c =
    let F = g.T.Arithmetic.field.ops in
    let s = lent F g.T.Arithmetic.value c.args.self.now in
    let same : c.args.k ≡ c.args.i = omega arith in
    c.one.ensures ∙ sym (ap (lower F s c.args.k) (sym same) ∙ lower_on F s c.args.k)
