-- What a pivot chooser answers, as a function of the codes and of the unknown numbers beside them.
use Rattle.std.specs.Prelude.{◌≡◌, ℕ, suc, ◌<◌, ◌≤◌, Bool, true, false, not, if◌then◌else◌, ◌&&◌, List, [], ◌∷◌, length, position, Some, None, Option, MatchOption, ◌==◌, nat_le, nat_lt, slice_index, slice_index_or}
use Rattle.std.specs.Option.{option_or}

abbrev pub Pick : Type 0
Pick = List ℕ → List ℕ → Option ℕ

abbrev pub AllZero : List ℕ → Type 0
AllZero codes = (k : ℕ) → k < length codes → slice_index codes k ≡ 0

-- place i lies in the list, and its code is not 0
abbrev pub NonzeroAt : List ℕ → ℕ → Type 0
NonzeroAt codes i = (i < length codes) × ¬ (slice_index codes i ≡ 0)

-- lists of one length, at most 96
abbrev pub Fit : List ℕ → List ℕ → Type 0
Fit codes unknowns = (length codes ≡ length unknowns) × (length codes ≤ 96)

-- whether they are
abbrev pub fits : List ℕ → List ℕ → Bool
fits codes unknowns = length codes == length unknowns && nat_le (length codes) 96

-- the law of every chooser: of lists of one length, at most 96, it picks a code that is not 0, and none exactly if there is none
pub record LawfulPick (pick : Pick) : Type 0 where
  pub answers : (codes unknowns : List ℕ) → Fit codes unknowns → MatchOption (pick codes unknowns) (AllZero codes) (NonzeroAt codes)
  pub unequal : (codes unknowns : List ℕ) → ¬ (length codes ≡ length unknowns) → pick codes unknowns ≡ None
  pub longer : (codes unknowns : List ℕ) → 96 < length codes → pick codes unknowns ≡ None

-- a rule, where the lists have one length, at most 96
abbrev pub guarded : Pick → Pick
guarded rule codes unknowns = if fits codes unknowns then rule codes unknowns else None

-- the place of the first of the greatest codes above top, and best where none is above it
abbrev pub greatest_from : Option ℕ → ℕ → ℕ → List ℕ → Option ℕ
greatest_from best top k [] = best
greatest_from best top k (c ∷ cs) = if nat_lt top c then greatest_from (Some k) c (suc k) cs else greatest_from best top (suc k) cs

-- the place of the first code that is not 0
abbrev pub topmost : Pick
topmost = guarded (λ codes unknowns. position (λ c. not (c == 0)) codes)

abbrev pub greatest : Pick
greatest = guarded (λ codes unknowns. greatest_from None 0 0 codes)

-- whether an unknown is marked; one past the marks is not
abbrev pub marked : List Bool → ℕ → Bool
marked marks unknown = slice_index_or marks unknown false

-- the codes with those of marked unknowns made 0
abbrev pub masked : List Bool → List ℕ → List ℕ → List ℕ
masked marks [] us = []
masked marks (c ∷ cs) [] = c ∷ masked marks cs []
masked marks (c ∷ cs) (u ∷ us) = (if marked marks u then 0 else c) ∷ masked marks cs us

-- the chooser below picks from the masked codes, and where it picks none, from the codes as received
abbrev pub keep_free : Pick → List Bool → Pick
keep_free below marks = guarded (λ codes unknowns. option_or (below (masked marks codes unknowns) unknowns) (below codes unknowns))

-- In words: of lists that fit, the answer is none where all codes are 0, and else a place of which this is true.
abbrev pub InWords : List ℕ → List ℕ → (ℕ → Type 0) → Option ℕ → Type 0
InWords codes unknowns Of answer = Fit codes unknowns → MatchOption answer (AllZero codes) Of

-- the first code that is not 0
pub record IsFirst (codes : List ℕ) (i : ℕ) : Type 0 where
  pub nonzero : NonzeroAt codes i
  pub zeros_before : (k : ℕ) → k < i → slice_index codes k ≡ 0

-- the largest code, the first among equals
pub record IsGreatest (codes : List ℕ) (i : ℕ) : Type 0 where
  pub nonzero : NonzeroAt codes i
  pub none_greater : (k : ℕ) → k < length codes → slice_index codes k ≤ slice_index codes i
  pub less_before : (k : ℕ) → k < i → slice_index codes k < slice_index codes i

-- a marked unknown is picked only where the codes of all unmarked ones are 0
abbrev pub Spares : List Bool → List ℕ → List ℕ → ℕ → Type 0
Spares marks codes unknowns i = marked marks (slice_index unknowns i) ≡ true → (k : ℕ) → k < length codes → marked marks (slice_index unknowns k) ≡ false → slice_index codes k ≡ 0
