use Rattle.std.proofs.Common.{List, ◌+◌, ◌-◌, length, take, drop, sym, ap, ◌∙◌, arith}
use Rattle.arithmetic.specs.Runs.{row}
use Rattle.columns.specs.Panels.{cells}
use Rattle.sets.proofs.Runs.{row_part}
use Rattle.sets.proofs.Dots.{part_length, dot_runs, dot_after}
use Rattle.sets.proofs.factors.Factors.share_below.Goals as goal

pub returns : goal.returns
returns g c =
    let F = g.T.Arithmetic.field.ops in
    let value = g.T.Arithmetic.value in
    let s = c.args.self.now in
    let run = c.args.run.now in
    let factors = c.column.result.now in
    let p = c.args.k + 1 in
    let m = s.height in
    let y = row F value run in
    let u = cells F value m s.columns.now c.args.k in
    let high = c.column.ensures.high in
    let fits = s.fits in
    let n = length run - p in
    let h = length factors - p in
    let long = part_length p (length run) run (omega arith) (omega arith) in
    let tall = part_length p (length factors) factors (omega arith) (omega arith) in
    c.sum_of_products.ensures
    ∙ dot_runs F value (m - p) (take n (drop p run)) (take h (drop p factors)) (λ i. y (p + i)) (λ i. u (p + i)) (omega arith)
    (λ i l. row_part F value p n run i (omega arith))
    (λ i l. row_part F value p h factors i (omega arith) ∙ ap (λ (xs : List g.row.T.Denot). row F value xs (p + i)) c.column.ensures.rows)
    ∙ sym (dot_after F g.met.T.Arithmetic.lawful p m y u (omega arith))
