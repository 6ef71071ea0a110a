-- A panel cut after one of its columns.
use Rattle.std.proofs.Common.{◌≡◌, ℕ, ◌+◌, ◌-◌, ◌*◌, ◌/◌, ◌<◌, ◌≤◌, List, ◌++◌, length, take, drop, sym, ap, ◌∙◌, subst₂, arith, drop-drop}
use native.Mathlib.Nat.{le-div_iff_mul-le, div-zero, add-mul}
use native.Mathlib.Decide.{dec_lt}
use Rattle.std.proofs.lemmas.List.{drop_at, take_all}
use Rattle.std.proofs.lemmas.Slice.{between_is}
use Rattle.columns.specs.Panels.{column_of}
use Rattle.columns.proofs.Panels.{ends, room}

-- a column that ends within the panel
pub has_room : (j h size : ℕ) → 0 < h → j * h + h ≤ size → j < size / h
has_room j h size high le = let p = (le-div_iff_mul-le {k = h} {x = j + 1} {y = size} high).1 (omega (arith, add-mul j 1 h)) in omega arith

-- a panel with a column has a height
pub has_height : (j h size : ℕ) → j < size / h → 0 < h
has_height j h size l = go (dec_lt 0 h)
  where
    go : Dec (0 < h) → 0 < h
    go (yes p) = p
    go (no n) = let e : h ≡ 0 = omega arith in absurd (omega (arith, ap (λ k. size / k) e, div-zero size))

-- one of the n columns of a panel
pub column_inside : (n h m size i : ℕ) → size ≡ n * h → m ≡ h → 0 < h → i < n → i < size / m
column_inside n h m size i is same some l = subst₂ (λ a b. i < a / b) (sym is) (sym same) (has_room i h (n * h) some (ends i n h l))

-- the columns from column a on
pub column_from : {X : Type 0} (h a e : ℕ) → e ≡ a * h → (xs : List X) (k : ℕ) → column_of h (drop e xs) k ≡ column_of h xs (a + k)
column_from h a e is xs k = let p : e + k * h ≡ (a + k) * h = omega (arith, add-mul a k h) in ap (take h) (drop-drop (k * h) e xs ∙ ap (λ n. drop n xs) p)

module _ (h j e : ℕ) (is : e ≡ j * h + h) where
  -- the column itself, at the end of the first part
  pub column_cut : {X : Type 0} (xs ys : List X) → ys ≡ take e xs → length ys ≡ e → take (length ys - j * h) (drop (j * h) ys) ≡ column_of h xs j
  column_cut xs ys front long =
      let p : e - j * h ≡ h = omega arith in
      ap (λ n. take (n - j * h) (drop (j * h) ys)) long
      ∙ between_is ys (j * h) e ∙ ap (drop (j * h)) (take_all e ys (omega arith) ∙ front)
      ∙ sym (between_is xs (j * h) e) ∙ ap (λ n. take n (drop (j * h) xs)) p

  -- the columns after it, of the whole panel and of its part
  pub column_after : {X : Type 0} (xs : List X) (k : ℕ) → column_of h (drop e xs) k ≡ column_of h xs (j + 1 + k)
  column_after xs k = column_from h (j + 1) e (omega (arith, add-mul j 1 h)) xs k

  -- and of a panel put together again
  pub column_joined : {X : Type 0} (xs ys : List X) (k : ℕ) → length xs ≡ e → column_of h (xs ++ ys) (j + 1 + k) ≡ column_of h ys k
  column_joined xs ys k long = sym (column_after (xs ++ ys) k) ∙ ap (λ zs. column_of h zs k) (drop_at xs ys e long)

  pub later_inside : (i size : ℕ) → j < i → i < size / h → i - (j + 1) < (size - e) / h
  later_inside i size after l =
      let high = has_height i h size l in
      let k = i - (j + 1) in
      let p : (j + 1 + k) * h ≡ e + k * h = omega (arith, add-mul (j + 1) k h, add-mul j 1 h) in
      let q : j + 1 + k ≡ i = omega arith in
      has_room k h (size - e) high (omega (arith, room i h size l, ap (λ n. n * h) q))
