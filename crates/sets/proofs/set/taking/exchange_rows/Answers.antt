use Rattle.std.proofs.Common.{◌≡◌, ap, ◌∙◌, arith}
use Rattle.columns.specs.Swaps.{joined, exchange}
use Rattle.columns.specs.Panels.{cells}
use Rattle.columns.proofs.Panels.{ends}
use Rattle.sets.proofs.Slots.{cells_exchanged}
use Rattle.sets.proofs.Taken.{changed_none, changed_next}
use Rattle.sets.proofs.set.taking.exchange_rows.Goals as goal

pub loop-j-init : goal.loop-j-init
loop-j-init g c = changed_none _ _

pub loop-j-preserved : goal.loop-j-preserved
loop-j-preserved g c =
    let F = g.T.Arithmetic.field.ops in
    let value = g.T.Arithmetic.value in
    let h = c.args.height in
    let j = c.loop-j.j in
    let xs = c.loop-j.memory in
    let room = ends j c.args.n h c.loop-j-test.true in
    cells_exchanged F value xs c.swap.new.self h j c.args.a c.args.b c.requires.first c.requires.second (omega arith) (omega arith) c.swap.ensures.after
    ∙ changed_next (λ x i. x (exchange c.args.a c.args.b i)) (cells F value h c.args.memory.now) (cells F value h xs) j c.loop-j.invariant

pub returns : goal.returns
returns g c =
    let M = cells g.T.Arithmetic.field.ops g.T.Arithmetic.value c.args.height c.args.memory.now in
    let all : c.loop-j.j ≡ c.args.n = omega arith in
    c.loop-j.invariant ∙ ap (λ n. joined n (λ j i. M j (exchange c.args.a c.args.b i)) M) all
