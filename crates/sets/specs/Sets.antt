-- What a set of the code stands for, and what an offer to it leaves.
use Rattle.std.specs.Prelude.{◌≡◌, ℕ, ◌+◌, ◌*◌, List, drop, vec_items}
use Rattle.arithmetic.specs.Fields.{Field}
use Rattle.arithmetic.specs.Runs.{row}
use Rattle.columns.specs.Picks.{Pick}
use Rattle.columns.specs.Factors.{Packed, worked}
use Rattle.columns.specs.Panels.{cells}
use Rattle.sets.specs.States.{State, Verdict as Judged, offered}
use Rattle.sets.specs.States.Verdict.{taken, redundant, clash}
use Rattle.sets.specs.Histories.{Step}
use Rattle.sets.specs.Histories.Call.{offer}
use Rattle.sets.specs.Memory.{stored}
use Rattle.sets.specs.Workings.{stepped}
use Rattle.sets.specs.declared.set.Set.{Set}
use Rattle.sets.specs.declared.verdict.Verdict.{Verdict}
use Rattle.sets.specs.declared.verdict.Verdict.TheVariants.{Taken, Redundant, Clash}

-- the memory after the slots
abbrev pub surplus : {T S : Type 0} → Set T S → List T
surplus s = drop (s.unknowns * (s.unknowns + 2)) (vec_items s.memory)

-- what stays as it was while a column is judged
pub record Kept {T S : Type 0} (s u : Set T S) : Type 0 where
  pub unknowns : u.unknowns ≡ s.unknowns
  pub held : u.held ≡ s.held
  pub surplus : surplus u ≡ surplus s
  pub refusal : u.refusal ≡ s.refusal

-- the same set, whether columns may be offered to it or not
pub record SameSet {T S Z : Type 0} (s : Set T S) (u : Set T Z) : Type 0 where
  pub memory : u.memory ≡ s.memory
  pub unknowns : u.unknowns ≡ s.unknowns
  pub held : u.held ≡ s.held
  pub pivots : u.pivots ≡ s.pivots
  pub refusal : u.refusal ≡ s.refusal

-- a column taken leaves the answer run as it was
abbrev pub Untouched : {T : Type 0} → Verdict T → List T → List T → Type 0
Untouched (Taken j) before after = after ≡ before
Untouched Redundant before after = Unit {0}
Untouched (Clash x) before after = Unit {0}

-- a column taken is the last of the n that are held
abbrev pub PlaceOfLast : {T : Type 0} → ℕ → Verdict T → Type 0
PlaceOfLast n (Taken j) = j + 1 ≡ n
PlaceOfLast n Redundant = Unit {0}
PlaceOfLast n (Clash x) = Unit {0}

-- a column that was worked before a verdict, brought up to date with the factors s after it
abbrev pub caught_up : {K T : Type 0} → Field K → Packed K → Verdict T → (ℕ → K) → ℕ → K
caught_up F s (Taken j) x = stepped F s j x
caught_up F s Redundant x = x
caught_up F s (Clash v) x = x

-- a verdict of the code, with the answer run beside it
abbrev pub seen : {K T : Type 0} → Field K → (T → K) → Verdict T → List T → Judged K
seen F value (Taken j) answer = taken j
seen F value Redundant answer = redundant (row F value answer)
seen F value (Clash x) answer = clash (value x) (row F value answer)

module _ {K T S : Type 0} (F : Field K) (value : T → K) where
  abbrev pub state : Set T S → State K
  state s = stored F value s.unknowns s.held (vec_items s.memory) s.pivots

  -- the column after the held ones
  abbrev pub next_column : Set T S → ℕ → K
  next_column s = cells F value s.unknowns (vec_items s.memory) s.held

  -- a column worked by the held ones
  abbrev pub worked_column : Set T S → List T → ℕ → K
  worked_column s column = worked F (state s).factors (row F value column)

  -- an offer that was judged so: from the set s and the answer run before to the set u and the answer run after
  pub record Offered (pick : Pick) (s : Set T S) (column : List T) (target : T) (before : List T) (u : Set T S) (after : List T) (verdict : Verdict T) : Type 0 where
    pub formula : offered F pick (state s) (row F value column) (value target) ≡ (seen F value verdict after, state u)
    pub step : Step F (state s) (offer (record { column = row F value column; target = value target; verdict = seen F value verdict after })) (state u)
    pub untouched : Untouched verdict before after
    pub surplus : surplus u ≡ surplus s
    pub refusal : u.refusal ≡ s.refusal
