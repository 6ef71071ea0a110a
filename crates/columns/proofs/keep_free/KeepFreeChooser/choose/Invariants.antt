use Rattle.std.proofs.Common.{◌≡◌, ℕ, ◌<◌, length, get_or}
use Rattle.columns.specs.Picks.{masked}
use Rattle.columns.proofs.keep_free.KeepFreeChooser.choose.Given as goal

-- the table is filled as far as the lists were gone over
abbrev pub invariant-loop-i : goal.invariant-loop-i
invariant-loop-i g l = (length l.shown ≡ 96) × ((k : ℕ) → k < length l.yielded → get_or l.shown k 0 ≡ get_or (masked l.self.marks l.codes l.unknowns) k 0)
