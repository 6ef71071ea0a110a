-- When pivots lead out of no column.
use Rattle.std.specs.Prelude.{ℕ, ◌+◌, ◌<◌, List}
use Rattle.columns.specs.Panels.{offsets}

-- the first r pivots stay within the height
abbrev pub PivotsWithin : ℕ → ℕ → List ℕ → Type 0
PivotsWithin m r pivots = (k : ℕ) → k < r → k + offsets pivots k < m
