use Rattle.std.proofs.Common.{get_or, take, pos, ◌+ℤ◌, fold, w32, rules}
use Rattle.std.proofs.lemmas.Int.{to_z-of_z}
use Rattle.std.proofs.lemmas.List.Sums.{fold_more}
use Rattle.arithmetic.specs.Lemmas.Laws.{bring_sum}
use Rattle.walkthrough.proofs.chain.chained.Goals as goal

pub loop-length-preserved : goal.loop-length-preserved
loop-length-preserved g c =
    let i = c.loop-length.length-index in
    let x = get_or c.args.lengths.now i (pos 0) in
    let whole = to_z-of_z w32 x (search rules) in
    let next = bring_sum g.T.Arithmetic.field.ops g.met.T.Arithmetic.lawful (fold ◌+ℤ◌ (pos 0) (take i c.args.lengths.now)) x in
    let more = fold_more ◌+ℤ◌ (pos 0) c.args.lengths.now i (pos 0) c.loop-length-test.true in
    cc
