use Rattle.std.proofs.Common.{ℕ, ◌-◌, sym, ap, ◌∙◌, arith}
use Rattle.arithmetic.specs.Runs.{row}
use Rattle.columns.specs.Factors.{back}
use Rattle.columns.specs.Panels.{cells}
use Rattle.columns.proofs.Places.{joined_high}
use Rattle.sets.proofs.Backs.{Backed, backed_none, backed_less, backed_all, back_cleared, combination_by_cells}
use Rattle.sets.proofs.factors.Factors.combine.Goals as goal

pub loop-n-init : goal.loop-n-init
loop-n-init g c =
    let F = g.T.Arithmetic.field.ops in
    let value = g.T.Arithmetic.value in
    let s = c.args.self.now in
    backed_none F (cells F value s.height s.columns.now) s.rank (row F value c.clear.new.run)
    (λ i l. ap (λ (a : ℕ → g.T.Arithmetic.field.Carrier). a i) c.clear.ensures ∙ joined_high s.rank _ _ i l)

pub loop-n-preserved : goal.loop-n-preserved
loop-n-preserved g c =
    let F = g.T.Arithmetic.field.ops in
    let value = g.T.Arithmetic.value in
    let s = c.args.self.now in
    let n = c.loop-n.n in
    let U = cells F value s.height s.columns.now in
    ap (Backed F U (n - 1)) c.back_row.ensures
    ∙ backed_less F U n (row F value c.loop-n.run) c.loop-n-test.true
    ∙ c.loop-n.invariant

pub returns : goal.returns
returns g c =
    let F = g.T.Arithmetic.field.ops in
    let value = g.T.Arithmetic.value in
    let s = c.args.self.now in
    let start = row F value c.args.run.now in
    let U = cells F value s.height s.columns.now in
    sym (backed_all F U c.loop-n.n (row F value c.loop-n.run) (omega arith))
    ∙ c.loop-n.invariant
    ∙ ap (back F U s.rank) c.clear.ensures
    ∙ back_cleared F U s.rank start
    ∙ sym (combination_by_cells F value s.height s.rank s.columns.now s.pivots.now start)
