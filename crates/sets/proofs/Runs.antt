-- Runs of elements: their values by place, their swaps, and a run as a panel of one column.
use Rattle.std.proofs.Common.{◌≡◌, ℕ, zero, suc, ◌+◌, ◌*◌, ◌/◌, ◌<◌, ◌≤◌, List, [], ◌∷◌, length, take, drop, set, Some, None, Option, sym, refl, ap, ◌∙◌, ap₂, subst₂, add-one, arith}
use mathlib.Core.Path.{fun_ext}
use native.Mathlib.Nat.{div_self}
use native.Mathlib.Decide.{ℕ_discrete}
use Rattle.std.proofs.lemmas.List.{take_all, get_or-take, length-take-le}
use Rattle.arithmetic.specs.Fields.{Field}
use Rattle.arithmetic.specs.Runs.{row}
use Rattle.columns.specs.Swaps.{put, joined, exchange, swapped, unswapped}
use Rattle.columns.specs.Panels.{column_of, places, EachColumn, offsets, PivotsInside, Swaps, Unswaps}
use Rattle.columns.proofs.Places.{joined_low, joined_high, joined_next}
use Rattle.columns.proofs.Swaps.{swapped_alike, unswapped_alike}
use Rattle.columns.proofs.Panels.{row_set}

pub empty : {X : Type 0} (xs : List X) → length xs ≡ 0 → xs ≡ []
empty [] e = refl
empty (x ∷ xs) e = absurd (omega arith)

first_column : {X : Type 0} (m : ℕ) (xs : List X) → length xs ≡ m → column_of m xs 0 ≡ xs
first_column m xs e =
    let z : 0 * m ≡ 0 = omega arith in
    ap (λ n. take m (drop n xs)) z ∙ take_all m xs (omega arith)

-- a run of m elements is the one column of height m; where m is 0 there is none
pub one_column : {X : Type 0} (Becomes : List X → List X → Type 0) (m : ℕ) (xs ys : List X) → length xs ≡ m → length ys ≡ m
    → (m ≡ 0 → Becomes [] []) → EachColumn m Becomes xs ys → Becomes xs ys
one_column Becomes m xs ys ex ey none each = go (ℕ_discrete m 0)
  where
    go : Dec (m ≡ 0) → Becomes xs ys
    go (yes z) = subst₂ Becomes (sym (empty xs (ex ∙ z))) (sym (empty ys (ey ∙ z))) (none z)
    go (no n) =
        let counted : length xs / m ≡ 1 = ap (λ k. k / m) ex ∙ div_self {n = m} (omega arith) in
        subst₂ Becomes (first_column m xs ex) (first_column m ys ey) (each 0 (omega arith))

pub joined_none : {A : Type 0} (x y : ℕ → A) → y ≡ joined 0 x y
joined_none x y = fun_ext (λ i. sym (joined_high 0 x y i (omega arith)))

-- Swaps.

module _ {X Y : Type 0} (f : X → Y) (o : ℕ → ℕ) where
  swapped_map : (n : ℕ) (b : ℕ → X) → swapped o n (λ i. f (b i)) ≡ (λ i. f (swapped o n b i))
  swapped_map zero b = refl
  swapped_map (suc n) b = ap {B = ℕ → Y} (λ c i. c (exchange n (n + o n) i)) (swapped_map n b)

  unswapped_map : (n : ℕ) (b : ℕ → X) → unswapped o n (λ i. f (b i)) ≡ (λ i. f (unswapped o n b i))
  unswapped_map zero b = refl
  unswapped_map (suc n) b = unswapped_map n (λ i. b (exchange n (n + o n) i))

-- an empty run, which no pivot fits
module _ (pivots : List ℕ) (m : ℕ) (inside : PivotsInside m pivots) where
  no_pivots : m ≡ 0 → length pivots ≡ 0
  no_pivots e = go (ℕ_discrete (length pivots) 0)
    where
      go : Dec (length pivots ≡ 0) → length pivots ≡ 0
      go (yes z) = z
      go (no n) = absurd (omega (arith, inside 0 (omega arith)))

  pub swaps_empty : {X : Type 0} → m ≡ 0 → Swaps {X = X} pivots [] []
  swaps_empty {X} e = ap (λ n. swapped (offsets pivots) n (places {X = X} [])) (sym (no_pivots e))

  pub unswaps_empty : {X : Type 0} → m ≡ 0 → Unswaps {X = X} pivots [] []
  unswaps_empty {X} e = ap (λ n. unswapped (offsets pivots) n (places {X = X} [])) (sym (no_pivots e))

-- the first r pivots of a list
module _ (r : ℕ) (pivots : List ℕ) (held : r ≤ length pivots) where
  first_long : length (take r pivots) ≡ r
  first_long = length-take-le r pivots held

  first_offsets : (k : ℕ) → k < r → offsets (take r pivots) k ≡ joined r (offsets pivots) (λ k. 0) k
  first_offsets k l = get_or-take r pivots k 0 l ∙ sym (joined_low r (offsets pivots) (λ k. 0) k l)

  pub first_swapped : {Y : Type 0} (b : ℕ → Y) → swapped (offsets (take r pivots)) (length (take r pivots)) b ≡ swapped (joined r (offsets pivots) (λ k. 0)) r b
  first_swapped b = ap (λ n. swapped (offsets (take r pivots)) n b) first_long ∙ swapped_alike (offsets (take r pivots)) _ r b first_offsets

  first_unswapped : {Y : Type 0} (b : ℕ → Y) → unswapped (offsets (take r pivots)) (length (take r pivots)) b ≡ unswapped (joined r (offsets pivots) (λ k. 0)) r b
  first_unswapped b = ap (λ n. unswapped (offsets (take r pivots)) n b) first_long ∙ unswapped_alike (offsets (take r pivots)) _ r b first_offsets

module _ {K X : Type 0} (F : Field K) (value : X → K) where
  unfoldable pub value_at : Option X → K
  value_at None = F.zero
  value_at (Some x) = value x

  pub row_places : (xs : List X) → row F value xs ≡ (λ i. value_at (places xs i))
  unfolding value_at
  row_places xs = fun_ext (go xs)
    where
      go : (zs : List X) (i : ℕ) → row F value zs i ≡ value_at (places zs i)
      go [] i = refl
      go (z ∷ zs) zero = refl
      go (z ∷ zs) (suc i) = go zs i

  pub row_take : (n : ℕ) (xs : List X) (k : ℕ) → k < n → row F value (take n xs) k ≡ row F value xs k
  row_take zero xs k l = absurd (omega arith)
  row_take (suc n) [] k l = refl
  row_take (suc n) (x ∷ xs) zero l = refl
  row_take (suc n) (x ∷ xs) (suc k) l = row_take n xs k (omega arith)

  pub row_drop : (n : ℕ) (xs : List X) (k : ℕ) → row F value (drop n xs) k ≡ row F value xs (n + k)
  row_drop zero xs k = ap (row F value xs) (omega arith)
  row_drop (suc n) [] k = refl
  row_drop (suc n) (x ∷ xs) k = row_drop n xs k ∙ ap (row F value (x ∷ xs)) {x = suc (n + k)} (omega arith)

  -- a part of a run
  pub row_part : (a n : ℕ) (xs : List X) (k : ℕ) → k < n → row F value (take n (drop a xs)) k ≡ row F value xs (a + k)
  row_part a n xs k l = row_take n (drop a xs) k l ∙ row_drop a xs k

  -- rows before i hold f, and one more does
  pub row_written : (xs : List X) (i : ℕ) (y : X) (f b : ℕ → K) → i < length xs → value y ≡ f i → row F value xs ≡ joined i f b → row F value (set xs i y) ≡ joined (i + 1) f b
  row_written xs i y f b l here before =
      row_set F value xs i y l ∙ ap₂ (put i) here before ∙ joined_next i f b ∙ ap (λ n. joined n f b) (sym (add-one i))

  -- swaps of elements are swaps of values
  module _ (r : ℕ) (pivots : List ℕ) (held : r ≤ length pivots) (xs ys : List X) where
    pub swaps_values : Swaps (take r pivots) xs ys → row F value ys ≡ swapped (joined r (offsets pivots) (λ k. 0)) r (row F value xs)
    swaps_values e =
        row_places ys ∙ ap {B = ℕ → K} (λ p i. value_at (p i)) e
        ∙ sym (swapped_map value_at (offsets (take r pivots)) (length (take r pivots)) (places xs))
        ∙ ap (swapped (offsets (take r pivots)) (length (take r pivots))) (sym (row_places xs))
        ∙ first_swapped r pivots held (row F value xs)

    pub unswaps_values : Unswaps (take r pivots) xs ys → row F value ys ≡ unswapped (joined r (offsets pivots) (λ k. 0)) r (row F value xs)
    unswaps_values e =
        row_places ys ∙ ap {B = ℕ → K} (λ p i. value_at (p i)) e
        ∙ sym (unswapped_map value_at (offsets (take r pivots)) (length (take r pivots)) (places xs))
        ∙ ap (unswapped (offsets (take r pivots)) (length (take r pivots))) (sym (row_places xs))
        ∙ first_unswapped r pivots held (row F value xs)
