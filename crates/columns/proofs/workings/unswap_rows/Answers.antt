use Rattle.std.proofs.Common.{◌+◌, ◌-◌, ap, ◌∙◌, arith}
use Rattle.columns.specs.Swaps.{unswapped}
use Rattle.columns.specs.Panels.{places, offsets}
use Rattle.columns.proofs.Panels.{places_exchanged, unswapped_less}
use Rattle.columns.proofs.workings.unswap_rows.Goals as goal

pub loop-k-preserved : goal.loop-k-preserved
loop-k-preserved g c =
    let k = c.loop-k.k in
    let o = offsets c.args.pivots.now in
    let inside = c.requires (k - 1) (omega arith) in
    ap (unswapped o (k - 1)) (places_exchanged c.loop-k.column c.swap.new.self (k - 1) (k - 1 + o (k - 1)) (omega (arith, inside)) (omega (arith, inside)) c.swap.ensures.after)
    ∙ unswapped_less o k (places c.loop-k.column) c.loop-k-test.true
    ∙ c.loop-k.invariant
