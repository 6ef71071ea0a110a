use Rattle.std.proofs.Common.{◌≡◌, ap, ◌∙◌, ap₂, arith}
use Rattle.arithmetic.specs.Runs.{row}
use Rattle.columns.specs.Swaps.{put}
use Rattle.columns.specs.Factors.{front}
use Rattle.columns.specs.Panels.{cells}
use Rattle.columns.proofs.Panels.{row_set}
use Rattle.sets.specs.Workings.{front_entry}
use Rattle.sets.proofs.Fronts.{front_none, front_next, front_by_cells}
use Rattle.sets.proofs.factors.Factors.substitute.Goals as goal

pub loop-n-init : goal.loop-n-init
loop-n-init g c =
    let F = g.T.Arithmetic.field.ops in
    let value = g.T.Arithmetic.value in
    let s = c.args.self.now in
    c.clear.ensures ∙ front_none F (cells F value s.height s.columns.now) (row F value c.args.targets.now) (row F value c.args.run.now)

pub loop-n-preserved : goal.loop-n-preserved
loop-n-preserved g c =
    let F = g.T.Arithmetic.field.ops in
    let value = g.T.Arithmetic.value in
    let s = c.args.self.now in
    let n = c.loop-n.n in
    let xs = c.loop-n.run in
    let U = cells F value s.height s.columns.now in
    let t = row F value c.args.targets.now in
    let here = c.front_row.ensures ∙ ap (front_entry F U t n) c.loop-n.invariant in
    row_set F value xs n c.front_row.result (omega (arith, s.fits)) ∙ ap₂ (put n) here c.loop-n.invariant ∙ front_next F U t n

pub returns : goal.returns
returns g c =
    let F = g.T.Arithmetic.field.ops in
    let value = g.T.Arithmetic.value in
    let s = c.args.self.now in
    let t = row F value c.args.targets.now in
    let all : c.loop-n.n ≡ s.rank = omega arith in
    c.loop-n.invariant
    ∙ ap (front F (cells F value s.height s.columns.now) t) all
    ∙ front_by_cells F value s.height s.rank s.columns.now s.pivots.now t
