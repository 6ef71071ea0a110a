-- The workings on one column, row after row.
use Rattle.std.proofs.Common.{◌≡◌, ℕ, zero, suc, ◌+◌, ◌<◌, ◌≤◌, List, length, get_or, take, drop, set, sym, refl, ap, ◌∙◌, ap₂, add-one, arith}
use mathlib.Core.Path.{fun_ext}
use native.Mathlib.Decide.{dec_lt}
use Rattle.std.proofs.lemmas.List.{drop-drop, drop-set-lt, take-set-le}
use Rattle.arithmetic.specs.Fields.{Field, Lawful}
use Rattle.arithmetic.specs.Runs.{row, total}
use Rattle.arithmetic.proofs.Rows.{row_inside}
use Rattle.columns.specs.Swaps.{put, joined}
use Rattle.columns.specs.Factors.{Packed, permuted, lower, left, eliminated, worked}
use Rattle.columns.specs.Panels.{solved, reduced, Solves, Reduces}
use Rattle.columns.proofs.Places.{joined_low, joined_high, joined_next}
use Rattle.columns.proofs.Rings.{negative_zero, zero_by_left}
use Rattle.columns.proofs.Sums.{total_cong, total_zeros}
use Rattle.columns.proofs.Panels.{row_set}
use Rattle.columns.proofs.Factors.{lower_below, worked_solved, worked_rest}
use Rattle.columns.proofs.Eliminations.{left_is_less_the_sum}

module _ {K : Type 0} (F : Field K) (W : Lawful F) (L : ℕ → ℕ → K) where
  infixl 65 ◌⊕◌
  infixl 70 ◌⊙◌
  infix 80 ⊖◌
  open F use {zero as 𝟘, sum as ◌⊕◌, negative as ⊖◌, product as ◌⊙◌}

  pub solved_none : (b : ℕ → K) → solved F L 0 b ≡ b
  unfolding solved
  solved_none b = fun_ext (λ i. joined_high 0 (λ k. left F L b k k) b i (omega arith))

  -- a row before c is less the sum over the rows before it
  pub solved_is_less_the_sum : (c : ℕ) (b : ℕ → K) (i : ℕ) → i < c → solved F L c b i ≡ b i ⊕ ⊖ total F i (λ j. L j i ⊙ solved F L c b j)
  unfolding solved
  solved_is_less_the_sum c b i h =
      let y : ℕ → K = λ k. left F L b k k in
      joined_low c y b i h
      ∙ left_is_less_the_sum F W L b i i
      ∙ ap (λ t. b i ⊕ ⊖ t) (total_cong F i _ _ (λ j l. ap (λ u. L j i ⊙ u) (sym (joined_low c y b j (omega arith)))))

  -- one row more
  pub solved_next : (b : ℕ → K) (i : ℕ) → put i (solved F L i b i ⊕ ⊖ total F i (λ j. L j i ⊙ solved F L i b j)) (solved F L i b) ≡ solved F L (i + 1) b
  unfolding solved
  solved_next b i =
      let y : ℕ → K = λ k. left F L b k k in
      let here : solved F L i b i ⊕ ⊖ total F i (λ j. L j i ⊙ solved F L i b j) ≡ y i =
      ap₂ (λ a t. a ⊕ ⊖ t) (joined_high i y b i (omega arith)) (total_cong F i _ _ (λ j l. ap (λ u. L j i ⊙ u) (joined_low i y b j l)))
      ∙ sym (left_is_less_the_sum F W L b i i) in
      ap (λ a. put i a (joined i y b)) here ∙ joined_next i y b ∙ ap (λ n. joined n y b) (sym (add-one i))

  module _ (c : ℕ) (b : ℕ → K) where
    less : ℕ → K
    less i = b i ⊕ ⊖ total F c (λ j. L j i ⊙ b j)

    -- from row c on, rows are reduced one after another
    pub reduced_none : joined c (reduced F L c b) b ≡ b
    unfolding reduced less
    reduced_none = fun_ext (λ i. go i (dec_lt i c))
      where
        go : (i : ℕ) → Dec (i < c) → joined c (reduced F L c b) b i ≡ b i
        go i (yes l) = joined_low c (reduced F L c b) b i l ∙ joined_low c b less i l
        go i (no n) = joined_high c (reduced F L c b) b i (omega arith)

    pub reduced_next : (i : ℕ) → c ≤ i → let R = joined i (reduced F L c b) b in put i (R i ⊕ ⊖ total F c (λ j. L j i ⊙ R j)) R ≡ joined (i + 1) (reduced F L c b) b
    unfolding reduced less
    reduced_next i h =
        let R = joined i (reduced F L c b) b in
        let before : (j : ℕ) → j < c → R j ≡ b j = λ j l. joined_low i (reduced F L c b) b j (omega arith) ∙ joined_low c b less j l in
        let here : R i ⊕ ⊖ total F c (λ j. L j i ⊙ R j) ≡ reduced F L c b i =
        ap₂ (λ a t. a ⊕ ⊖ t) (joined_high i (reduced F L c b) b i (omega arith)) (total_cong F c _ _ (λ j l. ap (λ u. L j i ⊙ u) (before j l)))
        ∙ sym (joined_high c b less i h) in
        ap (λ a. put i a R) here ∙ joined_next i (reduced F L c b) b ∙ ap (λ n. joined n (reduced F L c b) b) (sym (add-one i))

    -- past the height h, where L is zero, nothing changes
    pub reduced_all : (h : ℕ) → c ≤ h → ((j i : ℕ) → h ≤ i → L j i ≡ 𝟘) → joined h (reduced F L c b) b ≡ reduced F L c b
    unfolding reduced less
    reduced_all h le flat = fun_ext (λ i. go i (dec_lt i h))
      where
        go : (i : ℕ) → Dec (i < h) → joined h (reduced F L c b) b i ≡ reduced F L c b i
        go i (yes l) = joined_low h (reduced F L c b) b i l
        go i (no n) =
            let t : total F c (λ j. L j i ⊙ b j) ≡ 𝟘 = total_zeros F W c _ (λ j l. zero_by_left F W (b j) (flat j i (omega arith))) in
            joined_high h (reduced F L c b) b i (omega arith)
            ∙ sym (joined_high c b less i (omega arith) ∙ ap (λ u. b i ⊕ ⊖ u) t ∙ ap (λ u. b i ⊕ u) (negative_zero F W) ∙ W.sum_zero (b i))

-- L enters only below its diagonal
left_below : {K : Type 0} (F : Field K) (L M : ℕ → ℕ → K) (b : ℕ → K) → ((j i : ℕ) → j < i → L j i ≡ M j i) → (k i : ℕ) → k ≤ i → left F L b k i ≡ left F M b k i
unfolding left
left_below F L M b e zero i l = refl
left_below F L M b e (suc k) i l =
    ap₂ (λ u v. F.sum u (F.negative v)) (left_below F L M b e k i (omega arith)) (ap₂ F.product (e k i l) (left_below F L M b e k k (omega arith)))

module _ {K : Type 0} (F : Field K) (W : Lawful F) (s : Packed K) (b : ℕ → K) where
  infixl 65 ◌⊕◌
  infixl 70 ◌⊙◌
  infix 80 ⊖◌
  open F use {sum as ◌⊕◌, negative as ⊖◌, product as ◌⊙◌}

  packed_left : (k i : ℕ) → k ≤ i → eliminated F s b k i ≡ left F s.entry (permuted s b) k i
  packed_left = left_below F (lower F s) s.entry (permuted s b) (lower_below F s)

  pub worked_by_the_workings : worked F s b ≡ reduced F s.entry s.rank (solved F s.entry s.rank (permuted s b))
  unfolding solved reduced
  worked_by_the_workings = fun_ext (λ i. go i (dec_lt i r))
    where
      r : ℕ
      r = s.rank

      L : ℕ → ℕ → K
      L = s.entry

      p : ℕ → K
      p = permuted s b

      S : ℕ → K
      S = solved F L r p

      go : (i : ℕ) → Dec (i < r) → worked F s b i ≡ reduced F L r S i
      go i (yes l) =
          worked_solved F s b i (omega arith) ∙ packed_left i i (omega arith)
          ∙ sym (joined_low r S _ i l ∙ joined_low r (λ k. left F L p k k) p i l)
      go i (no n) =
          worked_rest F s b i (omega arith) ∙ packed_left r i (omega arith) ∙ left_is_less_the_sum F W L p r i
          ∙ sym (joined_high r S (λ k. S k ⊕ ⊖ total F r (λ j. L j k ⊙ S j)) i (omega arith)
          ∙ ap₂ (λ a t. a ⊕ ⊖ t) (joined_high r (λ k. left F L p k k) p i (omega arith)) (total_cong F r _ _ (λ j l. ap (λ u. L j i ⊙ u) (joined_low r (λ k. left F L p k k) p j l))))

-- the same of a run, one element written after another

module _ {K X : Type 0} (F : Field K) (W : Lawful F) (value : X → K) (L : ℕ → ℕ → K) where
  infixl 65 ◌⊕◌
  infixl 70 ◌⊙◌
  infix 80 ⊖◌
  open F use {zero as 𝟘, sum as ◌⊕◌, negative as ⊖◌, product as ◌⊙◌}

  -- y is written over x, and is x less the sum over n rows
  pub record Writes (n i : ℕ) (xs : List X) (x y : X) : Type 0 where
    pub inside : i < length xs
    pub over : x ≡ get_or xs i x
    pub less : value y ≡ value x ⊕ ⊖ total F n (λ j. L j i ⊙ row F value xs j)

  written : (n i : ℕ) (xs : List X) (x y : X) (R : ℕ → K) → Writes n i xs x y → row F value xs ≡ R
      → row F value (set xs i y) ≡ put i (R i ⊕ ⊖ total F n (λ j. L j i ⊙ R j)) R
  written n i xs x y R w e =
      row_set F value xs i y w.inside
      ∙ ap (λ v. put i v (row F value xs)) (w.less ∙ ap (λ v. v ⊕ ⊖ total F n (λ j. L j i ⊙ row F value xs j)) (sym (row_inside F value xs i x w.inside w.over)))
      ∙ ap (λ S. put i (S i ⊕ ⊖ total F n (λ j. L j i ⊙ S j)) S) e

  pub solves_none : (xs : List X) → Solves F value L 0 xs xs
  solves_none xs = record { values = sym (solved_none F W L (row F value xs)); untouched = refl }

  pub solves_next : (start xs : List X) (i : ℕ) (x y : X) → Writes i i xs x y → Solves F value L i start xs → Solves F value L (i + 1) start (set xs i y)
  solves_next start xs i x y w s = record {
    values = written i i xs x y (solved F L i (row F value start)) w s.values ∙ solved_next F W L (row F value start) i;
    untouched =
        drop-set-lt (i + 1) xs i y (omega arith) ∙ sym (drop-drop 1 i xs) ∙ ap (drop 1) s.untouched ∙ drop-drop 1 i start;
  }

  -- rows c to i - 1 are reduced, and the elements before row c are the same
  pub record Reducing (c : ℕ) (start xs : List X) (i : ℕ) : Type 0 where
    pub values : row F value xs ≡ joined i (reduced F L c (row F value start)) (row F value start)
    pub untouched : take c xs ≡ take c start

  pub reducing_none : (c : ℕ) (xs : List X) → Reducing c xs xs c
  reducing_none c xs = record { values = sym (reduced_none F W L c (row F value xs)); untouched = refl }

  pub reducing_next : (c : ℕ) (start xs : List X) (i : ℕ) (x y : X) → c ≤ i → Writes c i xs x y → Reducing c start xs i → Reducing c start (set xs i y) (i + 1)
  reducing_next c start xs i x y h w s = record {
    values = written c i xs x y (joined i (reduced F L c (row F value start)) (row F value start)) w s.values ∙ reduced_next F W L c (row F value start) i h;
    untouched = take-set-le c xs i y h ∙ s.untouched;
  }

  pub reducing_all : (c h : ℕ) (start xs : List X) → c ≤ h → ((j i : ℕ) → h ≤ i → L j i ≡ 𝟘) → Reducing c start xs h → Reduces F value L c start xs
  reducing_all c h start xs le flat s = record { values = s.values ∙ reduced_all F W L c (row F value start) h le flat; untouched = s.untouched }
