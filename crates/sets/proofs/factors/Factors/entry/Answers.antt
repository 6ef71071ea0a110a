use Rattle.std.proofs.Common.{List, sym, ap, ◌∙◌, arith}
use Rattle.arithmetic.specs.Runs.{row}
use Rattle.arithmetic.proofs.Rows.{row_inside}
use Rattle.sets.proofs.factors.Factors.entry.Goals as goal

pub returns : goal.returns
returns g c =
    let F = g.T.Arithmetic.field.ops in
    let value = g.T.Arithmetic.value in
    let i = c.args.i in
    sym (row_inside F value c.column.result.now i c.index-column-i.result (omega arith) c.index-column-i.is)
    ∙ ap (λ (xs : List g.row.T.Denot). row F value xs i) c.column.ensures.rows
