-- The number of each refusal.
use Rattle.std.specs.Prelude.{ℕ}
use Rattle.columns.specs.declared.refusal.Refusal.{Refusal}
use Rattle.columns.specs.declared.refusal.Refusal.TheVariants.{Unknowns, Memory, Length, List, Work, Missing, Place, LineEnd, Name, Header, Value, Count, Repeated}

abbrev pub refusal_number : Refusal → ℕ
refusal_number Unknowns = 1
refusal_number Memory = 2
refusal_number Length = 3
refusal_number List = 4
refusal_number Work = 5
refusal_number Missing = 6
refusal_number Place = 7
refusal_number LineEnd = 8
refusal_number Name = 9
refusal_number Header = 10
refusal_number Value = 11
refusal_number Count = 12
refusal_number Repeated = 13
