use Rattle.std.proofs.Common.{◌≡◌}
use Rattle.columns.specs.Swaps.{swapped}
use Rattle.columns.specs.Panels.{places, offsets}
use Rattle.columns.proofs.workings.swap_rows.Given as goal

abbrev pub invariant-loop-k : goal.invariant-loop-k
invariant-loop-k g l = places l.column ≡ swapped (offsets l.pivots) l.k (places l.initial.column)
