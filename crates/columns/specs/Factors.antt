-- Packed factors P, L and U of columns taken one after another, and what is read off them.
use Rattle.std.specs.Prelude.{◌≡◌, ℕ, zero, suc, ◌+◌, ◌<◌, ◌≤◌, min, Some, None, Option}
use Rattle.std.specs.Option.{option_or}
use Rattle.std.proofs.Math.Decide.{ℕ_discrete, dec_lt, dec_le}
use Rattle.arithmetic.specs.Fields.{Field}
use Rattle.arithmetic.specs.Runs.{dot}
use Rattle.columns.specs.Linear.{multiply}
use Rattle.columns.specs.Swaps.{choose, put, exchange, swapped, unswapped}

-- the factors of as many columns as the rank, each of this height
pub record Packed (K : Type 0) : Type 0 where
  pub height : ℕ
  pub rank : ℕ
  -- column j, row i: L below the diagonal, U on and above it
  pub entry : ℕ → ℕ → K
  -- P exchanges row k with row k + offset k
  pub offset : ℕ → ℕ

-- b swapped by P
abbrev pub permuted : {K X : Type 0} → Packed K → (ℕ → X) → ℕ → X
permuted s b = swapped s.offset s.rank b

-- b swapped back
abbrev pub restored : {K X : Type 0} → Packed K → (ℕ → X) → ℕ → X
restored s b = unswapped s.offset s.rank b

-- what is stored agrees: the columns below the rank, down to the height
pub record Alike {K : Type 0} (s u : Packed K) : Type 0 where
  pub height : s.height ≡ u.height
  pub rank : s.rank ≡ u.rank
  pub entry : (j i : ℕ) → j < s.rank → i < s.height → s.entry j i ≡ u.entry j i
  pub offset : (k : ℕ) → k < s.rank → s.offset k ≡ u.offset k

module _ {K : Type 0} (F : Field K) where
  infixl 65 ◌⊕◌
  infixl 70 ◌⊙◌
  infix 80 ⊖◌
  open F use {zero as 𝟘, one as 𝟙, sum as ◌⊕◌, negative as ⊖◌, product as ◌⊙◌, inverse, code}

  -- ones on the diagonal, zeros above it
  pub record UnitLower (r : ℕ) (L : ℕ → ℕ → K) : Type 0 where
    pub diagonal : (j : ℕ) → j < r → L j j ≡ 𝟙
    pub above : (j i : ℕ) → j < r → i < j → L j i ≡ 𝟘

  -- no zero on the diagonal, zeros below it
  pub record Upper (r : ℕ) (U : ℕ → ℕ → K) : Type 0 where
    pub diagonal : (j : ℕ) → j < r → ¬ (U j j ≡ 𝟘)
    pub below : (j i : ℕ) → j < r → j < i → U j i ≡ 𝟘

  -- L: the entries below the diagonal, ones on it
  unfoldable pub lower : Packed K → ℕ → ℕ → K
  lower s j i = choose (dec_lt j i) (s.entry j i) (choose (ℕ_discrete j i) 𝟙 𝟘)

  -- U: the entries on and above the diagonal
  unfoldable pub upper : Packed K → ℕ → ℕ → K
  upper s j i = choose (dec_le i j) (s.entry j i) 𝟘

  -- no more columns than rows, exchanges of rows that are there, and no zero on U's diagonal
  pub record Valid (s : Packed K) : Type 0 where
    pub fits : s.rank ≤ s.height
    pub inside : (k : ℕ) → k < s.rank → k + s.offset k < s.height
    pub diagonal : (j : ℕ) → j < s.rank → ¬ (s.entry j j ≡ 𝟘)

  -- What row i of b holds after k columns of L have been eliminated. The law left_is_less_the_sum: it is
  -- entry i less the sum, for j below k, of L(i,j) times entry j, each entry j as it stands when its turn comes.
  unfoldable pub left : (ℕ → ℕ → K) → (ℕ → K) → ℕ → ℕ → K
  left L b zero i = b i
  left L b (suc k) i = left L b k i ⊕ ⊖ (L k i ⊙ left L b k k)

  -- what row i of b, swapped by P, holds after k columns of L have been eliminated
  abbrev pub eliminated : Packed K → (ℕ → K) → ℕ → ℕ → K
  eliminated s b = left (lower s) (permuted s b)

  -- b swapped by P and worked: rows before the rank are solved, rows from the rank on are the rest
  unfoldable pub worked : Packed K → (ℕ → K) → ℕ → K
  worked s b i = eliminated s b (min i s.rank) i

  -- the rest of b is zero
  abbrev pub RestZero : Packed K → (ℕ → K) → Type 0
  RestZero s b = (i : ℕ) → s.rank ≤ i → i < s.height → worked s b i ≡ 𝟘

  -- x with U x = y, the last row first
  unfoldable pub back : (ℕ → ℕ → K) → ℕ → (ℕ → K) → ℕ → K
  back U zero y = λ j. 𝟘
  back U (suc r) y = put r (inverse (U r r) ⊙ y r) (back U r (λ i. y i ⊕ ⊖ (U r i ⊙ (inverse (U r r) ⊙ y r))))

  -- the combination that U gives for a worked column w
  unfoldable pub combination : Packed K → (ℕ → K) → ℕ → K
  combination s w = back (upper s) s.rank w

  -- column j again: P undone on L U
  unfoldable pub rebuilt : Packed K → ℕ → ℕ → K
  rebuilt s j = restored s (multiply F s.rank (lower s) (upper s) j)

  -- the worked column w with the rows rank and rank + q exchanged
  unfoldable pub turned : Packed K → (ℕ → K) → ℕ → ℕ → K
  turned s w q i = w (exchange s.rank (s.rank + q) i)

  -- and divided, below the row rank, by the entry there
  unfoldable pub divided : Packed K → (ℕ → K) → ℕ → ℕ → K
  divided s w q i = choose (dec_lt s.rank i) (turned s w q i ⊙ inverse (turned s w q s.rank)) (turned s w q i)

  -- the factors after the worked column w is taken with pick q: the same rows change places in every column
  abbrev pub extended : Packed K → (ℕ → K) → ℕ → Packed K
  extended s w q = record {
    height = s.height;
    rank = suc s.rank;
    entry = put s.rank (divided s w q) (λ j i. s.entry j (exchange s.rank (s.rank + q) i));
    offset = put s.rank q s.offset;
  }

  -- a column x worked before that taking goes on by one exchange and one step
  unfoldable pub advanced : Packed K → (ℕ → K) → ℕ → (ℕ → K) → ℕ → K
  advanced s w q x i =
      choose (dec_lt s.rank i) (turned s x q i ⊕ ⊖ (divided s w q i ⊙ x (s.rank + q))) (turned s x q i)

  -- the first place below n where f is not zero
  abbrev pub lead : ℕ → (ℕ → K) → Option ℕ
  lead zero f = None
  lead (suc n) f = option_or (lead n f) (choose (ℕ_discrete (code (f n)) (code 𝟘)) None (Some n))

  -- z with rows k - 1, .., 0 set in turn, so that z times column j of L is g j
  unfoldable pub settled : (ℕ → ℕ → K) → ℕ → (ℕ → K) → ℕ → (ℕ → K) → ℕ → K
  settled L m g zero z = z
  settled L m g (suc k) z = settled L m g k (put k (g k ⊕ ⊖ dot F m z (L k)) z)

  -- g with g times column j of U being t j, the first row first
  unfoldable pub front : (ℕ → ℕ → K) → (ℕ → K) → ℕ → ℕ → K
  front U t zero = λ j. 𝟘
  front U t (suc n) = put n ((t n ⊕ ⊖ dot F n (front U t n) (U n)) ⊙ inverse (U n n)) (front U t n)

  -- the motion that the worked column w shows at its entry rank + q: that entry's inverse there, L transposed, P undone
  unfoldable pub motion : Packed K → (ℕ → K) → ℕ → ℕ → K
  motion s w q = restored s (settled (lower s) s.height (λ k. 𝟘) s.rank (put (s.rank + q) (inverse (w (s.rank + q))) (λ k. 𝟘)))

  -- the assignment of the targets t: U transposed, then L transposed, then P undone
  unfoldable pub assignment : Packed K → (ℕ → K) → ℕ → K
  assignment s t = restored s (settled (lower s) s.height (front (upper s) t s.rank) s.rank (λ k. 𝟘))
