-- Columns of a panel, by place.
use Rattle.std.proofs.Common.{◌≡◌, ℕ, zero, suc, ◌+◌, ◌-◌, ◌*◌, ◌/◌, ◌<◌, ◌≤◌, List, [], ◌∷◌, length, get_or, take, drop, set, Some, sym, refl, ap, ◌∙◌, subst, ap₂, subst₂, mul-le-mul_right, add-mul, add-one, arith, below_more}
use native.Mathlib.Decide.{ℕ_discrete}
use borrow.Rule.Slice.PartMut.{put_mid, same_len_mid}
use Rattle.std.specs.List.{swap}
use Rattle.std.proofs.Math.Nat.{div-mul-le_self}
use Rattle.std.proofs.lemmas.List.{get_or-take, get_or-drop, length-take, length-take-le, length-drop, length-set}
use Rattle.std.proofs.lemmas.Slice.{take-put_mid_below, drop-put_mid, between-put_mid, between_is}
use Rattle.arithmetic.specs.Fields.{Field}
use Rattle.arithmetic.specs.Runs.{row}
use Rattle.arithmetic.proofs.Rows.{row_inside}
use Rattle.columns.specs.Swaps.{put, exchange, swapped, unswapped}
use Rattle.columns.specs.Panels.{column_of, places, offsets, cells}
use Rattle.columns.proofs.Places.{put_is, put_comm}
use Rattle.columns.proofs.Swaps.{put_both}

-- a place in column j of n columns
pub within : (j i n h size : ℕ) → j < n → i < h → n * h ≤ size → j * h + i < size
within j i n h size hj hi le =
    let more : (j + 1) * h ≤ n * h = mul-le-mul_right h (omega arith) in
    omega (arith, add-mul j 1 h)

-- column j ends before column n begins
pub ends : (j n h : ℕ) → j < n → j * h + h ≤ n * h
ends j n h lt = let le : (j + 1) * h ≤ n * h = mul-le-mul_right h (omega arith) in omega (arith, add-mul j 1 h)

-- column j ends within the panel
pub room : (j h size : ℕ) → j < size / h → j * h + h ≤ size
room j h size lt = omega (arith, ends j (size / h) h lt, div-mul-le_self size h)

-- an element put at a place

pub places_set : {X : Type 0} (xs : List X) (i : ℕ) (y : X) → i < length xs → places (set xs i y) ≡ put i (Some y) (places xs)
places_set xs i y h = sym (put_is i (Some y) (places xs) (places (set xs i y)) (here xs i h) (away xs i))
  where
    here : (zs : List _) (k : ℕ) → k < length zs → places (set zs k y) k ≡ Some y
    here [] k h = absurd (omega arith)
    here (z ∷ zs) zero h = refl
    here (z ∷ zs) (suc k) h = here zs k (omega arith)

    away : (zs : List _) (k j : ℕ) → ¬ (j ≡ k) → places (set zs k y) j ≡ places zs j
    away [] k j n = refl
    away (z ∷ zs) zero zero n = absurd (n refl)
    away (z ∷ zs) zero (suc j) n = refl
    away (z ∷ zs) (suc k) zero n = refl
    away (z ∷ zs) (suc k) (suc j) n = away zs k j (λ e. n (ap suc e))

pub places_at : {X : Type 0} (xs : List X) (i : ℕ) (d : X) → i < length xs → places xs i ≡ Some (get_or xs i d)
places_at [] i d h = absurd (omega arith)
places_at (x ∷ xs) zero d h = refl
places_at (x ∷ xs) (suc i) d h = places_at xs i d (omega arith)

pub exchange_comm : {X : Type 0} (p q : ℕ) (x : ℕ → X) → ◌≡◌ {A = ℕ → X} (λ i. x (exchange p q i)) (λ i. x (exchange q p i))
exchange_comm p q x = sym (put_both p q x) ∙ turn (ℕ_discrete p q) ∙ put_both q p x
  where
    turn : Dec (p ≡ q) → put p (x q) (put q (x p) x) ≡ put q (x p) (put p (x q) x)
    turn (yes e) = ap₂ (λ a b. put a (x q) (put b (x p) x)) e (sym e) ∙ ap₂ (λ a b. put q a (put p b x)) (ap x (sym e)) (ap x e)
    turn (no n) = put_comm p q (x q) (x p) x n

pub places_exchanged : {X : Type 0} (xs ys : List X) (a b : ℕ) → a < length xs → b < length xs → ys ≡ swap xs a b → places ys ≡ (λ i. places xs (exchange a b i))
places_exchanged [] ys a b ha hb e = absurd (omega arith)
places_exchanged (d ∷ ds) ys a b ha hb e =
    let xs = d ∷ ds in
    let x = get_or xs b d in
    let y = get_or xs a d in
    ap places e
    ∙ places_set (set xs a x) b y (simp length-set hb)
    ∙ ap (put b (Some y)) (places_set xs a x ha)
    ∙ ap₂ (λ u v. put b u (put a v (places xs))) (sym (places_at xs a d ha)) (sym (places_at xs b d hb))
    ∙ put_both b a (places xs)
    ∙ exchange_comm b a (places xs)

-- one exchange more
pub swapped_more : {X : Type 0} (pivots : List ℕ) (xs ys zs : List X) (k : ℕ) → places ys ≡ swapped (offsets pivots) k (places xs) → k < length ys → k + offsets pivots k < length ys
    → zs ≡ swap ys k (k + offsets pivots k) → places zs ≡ swapped (offsets pivots) (k + 1) (places xs)
swapped_more pivots xs ys zs k before inside far e =
    let o = offsets pivots in
    places_exchanged ys zs k (k + o k) inside far e
    ∙ ap (λ p i. p (exchange k (k + o k) i)) before
    ∙ ap (λ n. swapped o n (places xs)) (sym (add-one k))

-- one exchange less to be undone
pub unswapped_less : {X : Type 0} (o : ℕ → ℕ) (k : ℕ) (x : ℕ → X) → 0 < k → unswapped o (k - 1) (λ i. x (exchange (k - 1) (k - 1 + o (k - 1)) i)) ≡ unswapped o k x
unswapped_less o zero x h = absurd (omega arith)
unswapped_less o (suc k) x h = let e : suc k - 1 ≡ k = omega arith in ap (λ n. unswapped o n (λ i. x (exchange n (n + o n) i))) e

module _ {K X : Type 0} (F : Field K) (value : X → K) where
  pub row_set : (xs : List X) (i : ℕ) (y : X) → i < length xs → row F value (set xs i y) ≡ put i (value y) (row F value xs)
  row_set xs i y h = sym (put_is i (value y) (row F value xs) (row F value (set xs i y)) (here xs i h) (away xs i))
    where
      here : (zs : List X) (k : ℕ) → k < length zs → row F value (set zs k y) k ≡ value y
      here [] k h = absurd (omega arith)
      here (z ∷ zs) zero h = refl
      here (z ∷ zs) (suc k) h = here zs k (omega arith)

      away : (zs : List X) (k j : ℕ) → ¬ (j ≡ k) → row F value (set zs k y) j ≡ row F value zs j
      away [] k j n = refl
      away (z ∷ zs) zero zero n = absurd (n refl)
      away (z ∷ zs) zero (suc j) n = refl
      away (z ∷ zs) (suc k) zero n = refl
      away (z ∷ zs) (suc k) (suc j) n = away zs k j (λ e. n (ap suc e))

  pub row_past : (xs : List X) (i : ℕ) → length xs ≤ i → row F value xs i ≡ F.zero
  row_past [] i h = refl
  row_past (x ∷ xs) zero h = absurd (omega arith)
  row_past (x ∷ xs) (suc i) h = row_past xs i (omega arith)

  column_long : (xs : List X) (h j i : ℕ) → i < h → j * h + i < length xs → i < length (column_of h xs j)
  column_long xs h j i hi inside =
      omega (arith, length-take h (drop (j * h) xs), length-drop (j * h) xs)

  -- row i of column j stands at place j × height + i
  pub cells_at : (xs : List X) (h j i : ℕ) (x : X) → i < h → j * h + i < length xs → x ≡ get_or xs (j * h + i) x → cells F value h xs j i ≡ value x
  cells_at xs h j i x hi inside e =
      row_inside F value (column_of h xs j) i x (column_long xs h j i hi inside) (e ∙ sym (get_or-take h (drop (j * h) xs) i x hi ∙ get_or-drop (j * h) xs i x))

  pub cells_past : (xs : List X) (h j i : ℕ) → h ≤ i → cells F value h xs j i ≡ F.zero
  cells_past xs h j i past = row_past (column_of h xs j) i (omega (arith, length-take h (drop (j * h) xs)))

-- column after column

module _ {X : Type 0} (h j e : ℕ) (xs ys : List X) (is : e ≡ j * h + h) (room : e ≤ length xs) (long : length ys ≡ h) where
  here : column_of h (put_mid (j * h) (e - j * h) xs ys) j ≡ ys
  here =
      let k : e - j * h ≡ h = omega arith in
      ap (λ n. take n (drop (j * h) (put_mid (j * h) (e - j * h) xs ys))) (sym k) ∙ between-put_mid (j * h) (e - j * h) xs ys e (omega arith) (omega arith)

  before : (p : ℕ) → p < j → column_of h (put_mid (j * h) (e - j * h) xs ys) p ≡ column_of h xs p
  before p lt =
      let f : p * h + h ≤ j * h = ends p j h lt in
      let k : p * h + h - p * h ≡ h = omega arith in
      let w = put_mid (j * h) (e - j * h) xs ys in
      ap (λ n. take n (drop (p * h) w)) (sym k) ∙ between_is w (p * h) (p * h + h)
      ∙ ap (drop (p * h)) (take-put_mid_below (j * h) (e - j * h) xs ys (p * h + h) f (omega arith))
      ∙ sym (between_is xs (p * h) (p * h + h)) ∙ ap (λ n. take n (drop (p * h) xs)) k

  after : (p : ℕ) → j < p → column_of h (put_mid (j * h) (e - j * h) xs ys) p ≡ column_of h xs p
  after p lt =
      let f : j * h + h ≤ p * h = ends j p h lt in
      ap (take h) (drop-put_mid (j * h) (e - j * h) xs ys (p * h) (omega arith) (omega arith) (omega arith))

-- the columns before j have become what they should, and the others are as they were
pub record Upto {X : Type 0} (h : ℕ) (Becomes : List X → List X → Type 0) (start xs : List X) (j : ℕ) : Type 0 where
  pub same : length xs ≡ length start
  pub done : (k : ℕ) → k < j → Becomes (column_of h start k) (column_of h xs k)
  pub rest : (k : ℕ) → j ≤ k → column_of h xs k ≡ column_of h start k

module _ {X : Type 0} (h : ℕ) (Becomes : List X → List X → Type 0) (start : List X) where
  -- column j, lent out and given back as ys
  pub upto_more : (xs ys : List X) (j e : ℕ) → e ≡ j * h + h → e ≤ length xs → length ys ≡ length (take (e - j * h) (drop (j * h) xs))
      → Upto h Becomes start xs j → Becomes (take (e - j * h) (drop (j * h) xs)) ys → Upto h Becomes start (put_mid (j * h) (e - j * h) xs ys) (j + 1)
  upto_more xs ys j e is room long u b = record {
    same = same_len_mid (j * h) (e - j * h) xs ys long ∙ u.same;
    done = below_more (λ k. Becomes (column_of h start k) (column_of h xs' k)) j
        (λ k l. subst (Becomes (column_of h start k)) (sym (before h j e xs ys is room high k l)) (u.done k l))
        (subst₂ Becomes (part ∙ u.rest j (omega arith)) (sym (here h j e xs ys is room high)) b);
    rest = λ k l. after h j e xs ys is room high k (omega arith) ∙ u.rest k (omega arith);
  }
    where
      xs' : List X
      xs' = put_mid (j * h) (e - j * h) xs ys

      size : e - j * h ≡ h
      size = omega arith

      part : take (e - j * h) (drop (j * h) xs) ≡ column_of h xs j
      part = ap (λ n. take n (drop (j * h) xs)) size

      high : length ys ≡ h
      high = long ∙ ap length part ∙ length-take-le h (drop (j * h) xs) (omega (arith, length-drop (j * h) xs))
