-- What the memory's columns are to the packed factors.
use Rattle.std.proofs.Common.{◌≡◌, ℕ, ◌-◌, ◌*◌, ◌<◌, ◌≤◌, List, [], length, take, drop, get_or, sym, ap, ◌∙◌, mul-le-mul_right, arith}
use mathlib.Core.Path.{fun_ext}
use native.Mathlib.Decide.{dec_lt}
use Rattle.std.proofs.lemmas.List.{length-take, length-take-le, length-drop, take-take}
use Rattle.std.proofs.lemmas.Slice.{between_is}
use Rattle.arithmetic.specs.Fields.{Field, Lawful}
use Rattle.arithmetic.specs.Runs.{row}
use Rattle.arithmetic.proofs.Rows.{row_inside}
use Rattle.columns.specs.Swaps.{joined, swapped}
use Rattle.columns.specs.Factors.{worked}
use Rattle.columns.specs.Panels.{column_of, cells, offsets, solved, reduced, Solves, Reduces}
use Rattle.columns.proofs.Places.{joined_low, joined_high}
use Rattle.columns.proofs.Panels.{ends, row_past, cells_past}
use Rattle.columns.proofs.Steps.{worked_by_the_workings, solves_none, reducing_none, reducing_all}
use Rattle.sets.proofs.Parts.{joined_alike}
use Rattle.sets.proofs.Runs.{row_take}
use Rattle.sets.specs.Memory.{packed}

-- a column before column r stands in the first r columns
kept_column : {X : Type 0} (m r : ℕ) (memory : List X) (j : ℕ) → j < r → column_of m memory j ≡ column_of m (take (r * m) memory) j
kept_column m r memory j l =
    let room = ends j r m l in
    sym (take-take m (r * m - j * m) (drop (j * m) memory) (omega arith)) ∙ ap (take m) (between_is memory (j * m) (r * m))

-- there are no others
no_column : {X : Type 0} (m r : ℕ) (memory : List X) (j : ℕ) → r ≤ j → length (column_of m (take (r * m) memory) j) ≡ 0
no_column m r memory j l =
    let past : r * m ≤ j * m = mul-le-mul_right m l in
    omega (arith, length-take m (drop (j * m) (take (r * m) memory)), length-drop (j * m) (take (r * m) memory), length-take (r * m) memory)

module _ {K X : Type 0} (F : Field K) (value : X → K) where
  -- the first r columns read alone, with zeros from column r on
  pub first_columns : (m r : ℕ) (memory : List X) → joined r (cells F value m memory) (λ j i. F.zero) ≡ cells F value m (take (r * m) memory)
  first_columns m r memory = fun_ext (λ j. go j (dec_lt j r))
    where
      go : (j : ℕ) → Dec (j < r) → joined r (cells F value m memory) (λ j i. F.zero) j ≡ cells F value m (take (r * m) memory) j
      go j (yes l) = joined_low r _ _ j l ∙ ap (row F value) (kept_column m r memory j l)
      go j (no n) =
          let none = no_column m r memory j (omega arith) in
          joined_high r _ _ j (omega arith) ∙ fun_ext (λ i. sym (row_past F value (column_of m (take (r * m) memory) j) i (omega arith)))

  -- packed columns need no more memory than they take
  pub packed_alone : (m r : ℕ) (memory : List X) (pivots : List ℕ) → packed F value m r (take (r * m) memory) pivots ≡ packed F value m r memory pivots
  unfolding packed
  packed_alone m r memory pivots =
      ap (λ (e : ℕ → ℕ → K). record { height = m; rank = r; entry = e; offset = joined r (offsets pivots) (λ k. 0) })
      (joined_alike r (cells F value m (take (r * m) memory)) (cells F value m memory) (λ j i. F.zero) (λ j l. ap (row F value) (sym (kept_column m r memory j l))))

  -- element i of the first n of column j
  pub item_cell : (m : ℕ) (memory column : List X) (j n i : ℕ) (x : X) → column ≡ column_of m memory j → n ≤ length column → i < n → x ≡ get_or (take n column) i x → value x ≡ cells F value m memory j i
  item_cell m memory column j n i x is le l at =
      let long = length-take-le n column le in
      sym (row_inside F value (take n column) i x (omega arith) at) ∙ row_take F value n column i l ∙ ap (λ (xs : List X). row F value xs i) is

  pub entry_inside : (m r : ℕ) (memory : List X) (pivots : List ℕ) (j i : ℕ) → j < r → (packed F value m r memory pivots).entry j i ≡ cells F value m memory j i
  unfolding packed
  entry_inside m r memory pivots j i l = ap (λ (c : ℕ → K). c i) (joined_low r (cells F value m memory) _ j l)

module _ {K X : Type 0} (F : Field K) (W : Lawful F) (value : X → K) where
  pub worked_apart : (m r : ℕ) (memory : List X) (pivots : List ℕ) (b : ℕ → K) → let L = cells F value m (take (r * m) memory) in
      worked F (packed F value m r memory pivots) b ≡ reduced F L r (solved F L r (swapped (joined r (offsets pivots) (λ k. 0)) r b))
  unfolding packed
  worked_apart m r memory pivots b =
      worked_by_the_workings F W (packed F value m r memory pivots) b
      ∙ ap (λ (E : ℕ → ℕ → K). reduced F E r (solved F E r (swapped (joined r (offsets pivots) (λ k. 0)) r b))) (first_columns F value m r memory)

  -- an empty run
  pub solves_empty : (L : ℕ → ℕ → K) (r : ℕ) → r ≡ 0 → Solves F value L r [] []
  solves_empty L r e = rw e (solves_none F W value L [])

  pub reduces_empty : (memory : List X) (m r : ℕ) → r ≤ m → m ≡ 0 → Reduces F value (cells F value m memory) r [] []
  reduces_empty memory m r le e =
      let z : r ≡ 0 = omega arith in
      rw (z, e) (reducing_all F W value (cells F value 0 memory) 0 0 [] [] (omega arith) (cells_past F value memory 0) (reducing_none F W value (cells F value 0 memory) 0 []))
