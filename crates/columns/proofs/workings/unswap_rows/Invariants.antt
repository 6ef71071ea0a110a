use Rattle.std.proofs.Common.{◌≡◌, length}
use Rattle.columns.specs.Swaps.{unswapped}
use Rattle.columns.specs.Panels.{places, offsets}
use Rattle.columns.proofs.workings.unswap_rows.Given as goal

-- what is still to be undone
abbrev pub invariant-loop-k : goal.invariant-loop-k
invariant-loop-k g l = unswapped (offsets l.pivots) l.k (places l.column) ≡ unswapped (offsets l.pivots) (length l.pivots) (places l.initial.column)
