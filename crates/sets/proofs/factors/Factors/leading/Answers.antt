use Rattle.std.proofs.Common.{◌+◌, ◌-◌, length, take, drop, sym, ◌∙◌, arith}
use Rattle.arithmetic.specs.Runs.{row}
use Rattle.arithmetic.proofs.Rows.{row_inside}
use Rattle.sets.proofs.Runs.{row_part}
use Rattle.sets.proofs.Dots.{part_length}
use Rattle.sets.proofs.Leads.{lead_next, lead_found}
use Rattle.sets.proofs.factors.Factors.leading.Goals as goal

pub returns-then-not-is_zero-clause-first : goal.returns-then-not-is_zero-clause-first
returns-then-not-is_zero-clause-first g c =
    let F = g.T.Arithmetic.field.ops in
    let value = g.T.Arithmetic.value in
    let s = c.args.self.now in
    let i = c.loop-i.i in
    let column = c.args.column.now in
    let n = length column - s.rank in
    let long = part_length s.rank (length column) column (omega (arith, s.fits)) (omega arith) in
    let here = sym (row_part F value s.rank n column i (omega arith)) ∙ row_inside F value (take n (drop s.rank column)) i c.x-item.result (omega arith) c.x-item.is in
    sym (lead_found F g.met.T.Arithmetic.lawful (λ k. row F value column (s.rank + k)) i (s.height - s.rank) (omega arith) c.loop-i.invariant (λ e. c.if-not-is_zero.ensures.answer (sym here ∙ e)))

pub loop-i-preserved : goal.loop-i-preserved
loop-i-preserved g c =
    let F = g.T.Arithmetic.field.ops in
    let value = g.T.Arithmetic.value in
    let s = c.args.self.now in
    let i = c.loop-i.i in
    let column = c.args.column.now in
    let n = length column - s.rank in
    let long = part_length s.rank (length column) column (omega (arith, s.fits)) (omega arith) in
    let here = sym (row_part F value s.rank n column i (omega arith)) ∙ row_inside F value (take n (drop s.rank column)) i c.x-item.result (omega arith) c.x-item.is in
    lead_next F g.met.T.Arithmetic.lawful (λ k. row F value column (s.rank + k)) i c.loop-i.invariant (here ∙ c.if-not-is_zero.ensures.answer)
