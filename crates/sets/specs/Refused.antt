-- When a call of a set is refused.
use Rattle.std.specs.Prelude.{ℕ, ◌+◌, ◌*◌, ◌&&◌, if◌then◌else◌, Some, None, Option, ◌==◌, nat_le, nat_lt}
use Rattle.columns.specs.declared.refusal.Refusal.{Refusal}
use Rattle.columns.specs.declared.refusal.Refusal.TheVariants.{Unknowns, Memory, Length, List, Work, Missing, Place}

-- the making of a set of m unknowns over n elements of memory
abbrev pub make_refusal : ℕ → ℕ → Option Refusal
make_refusal m n = if m == 0 then Some Unknowns else if nat_lt 96 m then Some Unknowns else if nat_lt n (m * (m + 2)) then Some Memory else None

-- how many unknowns the set has then
abbrev pub allowed : Option Refusal → ℕ → ℕ
allowed None m = m
allowed (Some e) m = 0

-- an offer to a set of m unknowns that was itself refused so, by the lengths of the column and of the answer run
abbrev pub offer_refusal : Option Refusal → ℕ → ℕ → ℕ → Option Refusal
offer_refusal (Some e) m column answer = Some e
offer_refusal None m column answer = if column == m && answer == m then None else Some Length

-- a batch of k targets, by the lengths of its columns, its verdict list and its work run, and by its width
abbrev pub batch_refusal : Option Refusal → ℕ → ℕ → ℕ → ℕ → ℕ → ℕ → Option Refusal
batch_refusal (Some e) m k columns verdicts width work = Some e
batch_refusal None m k columns verdicts width work =
    if columns == k * m && nat_le k verdicts then if nat_le 1 width && nat_le width 32 && nat_le (width * m) work then None else Some Work else Some List

-- a rebuild, by the length of the answer run, the place and how many columns are held
abbrev pub rebuild_refusal : Option Refusal → ℕ → ℕ → ℕ → ℕ → Option Refusal
rebuild_refusal (Some e) m answer place held = Some e
rebuild_refusal None m answer place held = if answer == m then if nat_lt place held then None else Some Place else Some Length

-- a determinant, while fewer columns are held than there are unknowns
abbrev pub determinant_refusal : Option Refusal → ℕ → ℕ → Option Refusal
determinant_refusal (Some e) m held = Some e
determinant_refusal None m held = if nat_lt held m then Some Missing else None

-- a solution, by the length of the answer run too
abbrev pub solution_refusal : Option Refusal → ℕ → ℕ → ℕ → Option Refusal
solution_refusal (Some e) m answer held = Some e
solution_refusal None m answer held = if answer == m then if nat_lt held m then Some Missing else None else Some Length
