-- Memory as columns of one height, by place: row i of column j stands at place j × height + i.
use Rattle.std.proofs.Common.{◌≡◌, ℕ, ◌+◌, ◌-◌, ◌*◌, ◌<◌, ◌≤◌, List, ◌++◌, length, take, drop, set, sym, refl, ap, ◌∙◌, mul_comm, arith}
use mathlib.Core.Path.{fun_ext}
use native.Mathlib.Decide.{ℕ_discrete, dec_lt}
use borrow.Rule.Slice.PartMut.{put_mid}
use Rattle.std.specs.List.{swap}
use Rattle.std.proofs.lemmas.Slice.{take-put_mid_below, drop-put_mid, between-put_mid, between_is}
use Rattle.arithmetic.specs.Fields.{Field}
use Rattle.arithmetic.specs.Runs.{row}
use Rattle.columns.specs.Swaps.{put, exchange}
use Rattle.columns.specs.Panels.{column_of, places, cells}
use Rattle.columns.proofs.Places.{put_at, put_off, put_is}
use Rattle.columns.proofs.Panels.{within, ends, row_set, cells_past, places_exchanged}
use Rattle.sets.proofs.Runs.{value_at, row_places, row_take, row_drop}
use Rattle.columns.proofs.Swaps.{exchange_left, exchange_else, exchange_cases, exchange_twice}

-- a place in one of the m + 2 slots of height m
pub slot_place : (m j i size : ℕ) → j < m + 2 → i < m → m * (m + 2) ≤ size → j * m + i < size
slot_place m j i size hj hi le = within j i (m + 2) m size hj hi (omega (arith, mul_comm m (m + 2)))

-- one of those slots ends within them
pub slot_end : (m j size : ℕ) → j < m + 2 → m * (m + 2) ≤ size → j * m + m ≤ size
slot_end m j size hj le = omega (arith, ends j (m + 2) m hj, mul_comm m (m + 2))

-- a place belongs to one column only
pub same_column : (h j i l k : ℕ) → i < h → k < h → j * h + i ≡ l * h + k → j ≡ l
same_column h j i l k hi hk e = go (dec_lt j l) (dec_lt l j)
  where
    go : Dec (j < l) → Dec (l < j) → j ≡ l
    go (yes a) d = absurd (omega (arith, ends j l h a))
    go (no a) (yes b) = absurd (omega (arith, ends l j h b))
    go (no a) (no b) = omega arith

exchange_right : (p q i : ℕ) → i ≡ q → exchange p q i ≡ p
exchange_right p q i e = ap (exchange p q) (e ∙ sym (exchange_left p q p refl)) ∙ exchange_twice p q p

-- an exchange further on
exchange_shifted : (o a b i : ℕ) → exchange (o + a) (o + b) (o + i) ≡ o + exchange a b i
exchange_shifted o a b i = go (ℕ_discrete i a) (ℕ_discrete i b)
  where
    go : Dec (i ≡ a) → Dec (i ≡ b) → exchange (o + a) (o + b) (o + i) ≡ o + exchange a b i
    go (yes e) d = exchange_left (o + a) (o + b) (o + i) (ap (λ n. o + n) e) ∙ ap (λ n. o + n) (sym (exchange_left a b i e))
    go (no n) (yes e) = exchange_right (o + a) (o + b) (o + i) (ap (λ n. o + n) e) ∙ ap (λ n. o + n) (sym (exchange_right a b i e))
    go (no n) (no k) = exchange_else (o + a) (o + b) (o + i) (omega arith) (omega arith) ∙ ap (λ n. o + n) (sym (exchange_else a b i n k))

module _ {K X : Type 0} (F : Field K) (value : X → K) where
  pub cells_place : (xs : List X) (h j i : ℕ) → i < h → cells F value h xs j i ≡ row F value xs (j * h + i)
  cells_place xs h j i l = row_take F value h (drop (j * h) xs) i l ∙ row_drop F value (j * h) xs i

  -- an element written
  pub cells_set : (xs : List X) (h j i : ℕ) (y : X) → i < h → j * h + i < length xs → cells F value h (set xs (j * h + i) y) ≡ put j (put i (value y) (cells F value h xs j)) (cells F value h xs)
  cells_set xs h j i y hi inside = sym (put_is j (put i (value y) (cells F value h xs j)) (cells F value h xs) (cells F value h ys) here (λ l n. fun_ext (λ k. off l n k (dec_lt k h))))
    where
      ys : List X
      ys = set xs (j * h + i) y

      at : (p : ℕ) → row F value ys p ≡ put (j * h + i) (value y) (row F value xs) p
      at p = ap (λ (x : ℕ → K). x p) (row_set F value xs (j * h + i) y inside)

      off : (l : ℕ) → ¬ (l ≡ j) → (k : ℕ) → Dec (k < h) → cells F value h ys l k ≡ cells F value h xs l k
      off l n k (yes q) =
          cells_place ys h l k q ∙ at (l * h + k)
          ∙ put_off (j * h + i) (value y) (row F value xs) (l * h + k) (λ e. n (same_column h l k j i q hi e))
          ∙ sym (cells_place xs h l k q)
      off l n k (no q) = cells_past F value ys h l k (omega arith) ∙ sym (cells_past F value xs h l k (omega arith))

      beside : (k : ℕ) → ¬ (k ≡ i) → Dec (k < h) → cells F value h ys j k ≡ cells F value h xs j k
      beside k n (yes q) =
          cells_place ys h j k q ∙ at (j * h + k)
          ∙ put_off (j * h + i) (value y) (row F value xs) (j * h + k) (omega arith)
          ∙ sym (cells_place xs h j k q)
      beside k n (no q) = cells_past F value ys h j k (omega arith) ∙ sym (cells_past F value xs h j k (omega arith))

      here : cells F value h ys j ≡ put i (value y) (cells F value h xs j)
      here = sym (put_is i (value y) (cells F value h xs j) (cells F value h ys j)
          (cells_place ys h j i hi ∙ at (j * h + i) ∙ put_at (j * h + i) (value y) (row F value xs)) (λ k n. beside k n (dec_lt k h)))

  -- lists whose elements stand at places of each other
  pub row_moved : (xs ys : List X) (move : ℕ → ℕ) → places ys ≡ (λ i. places xs (move i)) → row F value ys ≡ (λ i. row F value xs (move i))
  row_moved xs ys move e =
      row_places F value ys ∙ ap {B = ℕ → K} (λ p i. value_at F value (p i)) e ∙ ap {B = ℕ → K} (λ r i. r (move i)) (sym (row_places F value xs))

  -- two elements of one column exchanged
  pub cells_exchanged : (xs ys : List X) (h j a b : ℕ) → a < h → b < h → j * h + a < length xs → j * h + b < length xs → ys ≡ swap xs (j * h + a) (j * h + b)
      → cells F value h ys ≡ put j (λ i. cells F value h xs j (exchange a b i)) (cells F value h xs)
  cells_exchanged xs ys h j a b ha hb ia ib e = sym (put_is j _ (cells F value h xs) (cells F value h ys) (fun_ext (λ k. here k (dec_lt k h))) (λ l n. fun_ext (λ k. off l n k (dec_lt k h))))
    where
      at : (p : ℕ) → row F value ys p ≡ row F value xs (exchange (j * h + a) (j * h + b) p)
      at p = ap (λ (x : ℕ → K). x p) (row_moved xs ys (exchange (j * h + a) (j * h + b)) (places_exchanged xs ys (j * h + a) (j * h + b) ia ib e))

      here : (k : ℕ) → Dec (k < h) → cells F value h ys j k ≡ cells F value h xs j (exchange a b k)
      here k (yes q) =
          cells_place ys h j k q ∙ at (j * h + k) ∙ ap (row F value xs) (exchange_shifted (j * h) a b k)
          ∙ sym (cells_place xs h j (exchange a b k) (exchange_cases (λ n. n < h) a b k ha hb q))
      here k (no q) =
          cells_past F value ys h j k (omega arith)
          ∙ sym (ap (cells F value h xs j) (exchange_else a b k (omega arith) (omega arith)) ∙ cells_past F value xs h j k (omega arith))

      off : (l : ℕ) → ¬ (l ≡ j) → (k : ℕ) → Dec (k < h) → cells F value h ys l k ≡ cells F value h xs l k
      off l n k (yes q) =
          cells_place ys h l k q ∙ at (l * h + k)
          ∙ ap (row F value xs) (exchange_else (j * h + a) (j * h + b) (l * h + k) (λ u. n (same_column h l k j a q ha u)) (λ u. n (same_column h l k j b q hb u)))
          ∙ sym (cells_place xs h l k q)
      off l n k (no q) = cells_past F value ys h l k (omega arith) ∙ sym (cells_past F value xs h l k (omega arith))

  -- one column lent out and given back as ys
  pub cells_lent : (xs ys : List X) (h j e : ℕ) → e ≡ j * h + h → e ≤ length xs → length ys ≡ h → cells F value h (put_mid (j * h) (e - j * h) xs ys) ≡ put j (row F value ys) (cells F value h xs)
  cells_lent xs ys h j e is room long = sym (put_is j (row F value ys) (cells F value h xs) (cells F value h zs) (ap (row F value) here) (λ l n. ap (row F value) (off l n (dec_lt l j))))
    where
      zs : List X
      zs = put_mid (j * h) (e - j * h) xs ys

      here : column_of h zs j ≡ ys
      here =
          let k : e - j * h ≡ h = omega arith in
          ap (λ n. take n (drop (j * h) zs)) (sym k) ∙ between-put_mid (j * h) (e - j * h) xs ys e (omega arith) (omega arith)

      off : (l : ℕ) → ¬ (l ≡ j) → Dec (l < j) → column_of h zs l ≡ column_of h xs l
      off l n (yes q) =
          let f : l * h + h ≤ j * h = ends l j h q in
          let k : l * h + h - l * h ≡ h = omega arith in
          ap (λ n. take n (drop (l * h) zs)) (sym k) ∙ between_is zs (l * h) (l * h + h)
          ∙ ap (drop (l * h)) (take-put_mid_below (j * h) (e - j * h) xs ys (l * h + h) f (omega arith))
          ∙ sym (between_is xs (l * h) (l * h + h)) ∙ ap (λ n. take n (drop (l * h) xs)) k
      off l n (no q) =
          let f : j * h + h ≤ l * h = ends j l h (omega arith) in
          ap (take h) (drop-put_mid (j * h) (e - j * h) xs ys (l * h) (omega arith) (omega arith) (omega arith))

  -- column j lent between the columns before it and those after it, and given back as ys
  pub cells_spliced : (h j : ℕ) (xs ys zs : List X) → j * h + h ≤ length xs → length ys ≡ h → zs ≡ take (j * h) xs ++ (ys ++ drop h (drop (j * h) xs)) → cells F value h zs ≡ put j (row F value ys) (cells F value h xs)
  cells_spliced h j xs ys zs room long is =
      let e : j * h + h - j * h ≡ h = omega arith in
      ap (cells F value h) (is ∙ ap (λ k. put_mid (j * h) k xs ys) (sym e))
      ∙ cells_lent xs ys h j (j * h + h) refl room long

  -- the first n elements alone hold the columns that end within them
  pub cells_front : (xs : List X) (n h j : ℕ) → j * h + h ≤ n → cells F value h (take n xs) j ≡ cells F value h xs j
  cells_front xs n h j le = fun_ext (λ i. go i (dec_lt i h))
    where
      go : (i : ℕ) → Dec (i < h) → cells F value h (take n xs) j i ≡ cells F value h xs j i
      go i (yes l) = cells_place (take n xs) h j i l ∙ row_take F value n xs (j * h + i) (omega arith) ∙ sym (cells_place xs h j i l)
      go i (no q) = cells_past F value (take n xs) h j i (omega arith) ∙ sym (cells_past F value xs h j i (omega arith))
