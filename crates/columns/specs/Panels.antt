-- A panel: columns of one height, one after another; and what a working makes of each of them.
use Rattle.std.specs.Prelude.{◌≡◌, ℕ, zero, suc, ◌+◌, ◌*◌, ◌/◌, ◌%◌, ◌<◌, Bool, true, if◌then◌else◌, ◌&&◌, List, [], ◌∷◌, length, take, drop, Some, None, Option, ◌==◌, nat_le, nat_lt, slice_index}
use Rattle.std.specs.Borrow.{MutBor}
use Rattle.arithmetic.specs.Fields.{Field}
use Rattle.arithmetic.specs.Runs.{row, total}
use Rattle.columns.specs.Swaps.{joined, swapped, unswapped}
use Rattle.columns.specs.Factors.{left}
use Rattle.columns.specs.declared.refusal.Refusal.{Refusal}
use Rattle.columns.specs.declared.refusal.Refusal.TheVariants.{Length, Place}

-- column j, its element in row i standing at place j × height + i
abbrev pub column_of : {X : Type 0} → ℕ → List X → ℕ → List X
column_of height panel j = take height (drop (j * height) panel)

-- the element at a place, and none past the end
abbrev pub places : {X : Type 0} → List X → ℕ → Option X
places [] i = None
places (x ∷ xs) zero = Some x
places (x ∷ xs) (suc i) = places xs i

-- what happens to each column of a panel
abbrev pub EachColumn : {X : Type 0} → ℕ → (List X → List X → Type 0) → List X → List X → Type 0
EachColumn height Becomes before after = (j : ℕ) → j < length before / height → Becomes (column_of height before j) (column_of height after j)

-- what a call says of what it finds and what it leaves behind a `&mut`
pub record Leaves {A : Type 0} (post : MutBor A → Unit {0} → MutBor A → Type 0) (before after : A) : Type 0 where
  pub lent : MutBor A
  pub back : MutBor A
  pub found : lent.now ≡ before
  pub met : post lent tt back
  pub left : back.now ≡ after

abbrev pub offsets : List ℕ → ℕ → ℕ
offsets pivots k = slice_index pivots k

-- every pivot stays within the height
abbrev pub PivotsInside : ℕ → List ℕ → Type 0
PivotsInside height pivots = (k : ℕ) → k < length pivots → k + offsets pivots k < height

-- row k changes places with row k + offset k, in order
abbrev pub Swaps : {X : Type 0} → List ℕ → List X → List X → Type 0
Swaps pivots before after = places after ≡ swapped (offsets pivots) (length pivots) (places before)

-- the same exchanges, undone
abbrev pub Unswaps : {X : Type 0} → List ℕ → List X → List X → Type 0
Unswaps pivots before after = places after ≡ unswapped (offsets pivots) (length pivots) (places before)

module _ {K : Type 0} (F : Field K) where
  infixl 65 ◌⊕◌
  infixl 70 ◌⊙◌
  infix 80 ⊖◌
  open F use {sum as ◌⊕◌, negative as ⊖◌, product as ◌⊙◌}

  -- the values of a panel: column j, row i; zero from the height on
  abbrev pub cells : {X : Type 0} → (X → K) → ℕ → List X → ℕ → ℕ → K
  cells value height panel j = row F value (column_of height panel j)

  -- b with its rows before c solved by L: each less the sum, over the rows before it, of L times what they are solved to
  unfoldable pub solved : (ℕ → ℕ → K) → ℕ → (ℕ → K) → ℕ → K
  solved L c b = joined c (λ i. left F L b i i) b

  -- b with its rows from c on less the product of L with its rows before c
  unfoldable pub reduced : (ℕ → ℕ → K) → ℕ → (ℕ → K) → ℕ → K
  reduced L c b = joined c b (λ i. b i ⊕ ⊖ total F c (λ j. L j i ⊙ b j))

  pub record Solves {X : Type 0} (value : X → K) (L : ℕ → ℕ → K) (c : ℕ) (before after : List X) : Type 0 where
    pub values : row F value after ≡ solved L c (row F value before)
    pub untouched : drop c after ≡ drop c before

  pub record Reduces {X : Type 0} (value : X → K) (L : ℕ → ℕ → K) (c : ℕ) (before after : List X) : Type 0 where
    pub values : row F value after ≡ reduced L c (row F value before)
    pub untouched : take c after ≡ take c before

-- When a working is refused.

-- whether a panel of this length has whole columns; of height 0, only an empty one has
abbrev pub whole : ℕ → ℕ → Bool
whole size height = size % height == 0

-- whether every pivot, the first being pivot k, stays within the height
abbrev pub inside_from : ℕ → ℕ → List ℕ → Bool
inside_from height k [] = true
inside_from height k (o ∷ os) = nat_lt (k + o) height && inside_from height (suc k) os

abbrev pub swap_refusal : ℕ → ℕ → List ℕ → Option Refusal
swap_refusal size height pivots = if whole size height then (if inside_from height 0 pivots then None else Some Place) else Some Length

-- L has c columns of the panel's height, and c is not above it
abbrev pub factor_refusal : ℕ → ℕ → ℕ → ℕ → Option Refusal
factor_refusal factors height c size = if nat_le c height && factors == c * height && whole size height then None else Some Length
