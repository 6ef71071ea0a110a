-- The theory of columns and of their packed factors: what holds in every lawful field.
use Rattle.std.specs.Prelude.{◌≡◌, ℕ, ◌+◌, ◌<◌, ◌≤◌, ◌⊎◌, ◌↔◌, MatchOption}
use Rattle.arithmetic.specs.Fields.{Field}
use Rattle.arithmetic.specs.Runs.{total, dot}
use Rattle.columns.specs.Linear.{Selection, combine, multiply, CombinationOf, Independent, Dependent, Motion}
use Rattle.columns.specs.Swaps.{swapped, unswapped}
use Rattle.columns.specs.Factors.{Packed, permuted, Alike, UnitLower, Upper, Valid, lower, upper, left, worked, RestZero}
use Rattle.columns.specs.Factors.{combination, rebuilt, extended, advanced, lead, motion, assignment}
use Rattle.columns.specs.Panels.{solved, reduced}
use Rattle.columns.specs.Determinants.{determinant, factored_determinant}

module _ {K : Type 0} (F : Field K) where
  infixl 65 ◌⊕◌
  infixl 70 ◌⊙◌
  infix 80 ⊖◌
  open F use {zero as 𝟘, sum as ◌⊕◌, negative as ⊖◌, product as ◌⊙◌}

  -- Exchanges undone give the column back, and so does undoing them first.
  pub record SwapsUndo : Type 0 where
    pub undone : (offset : ℕ → ℕ) (n : ℕ) (b : ℕ → K) → unswapped offset n (swapped offset n b) ≡ b
    pub redone : (offset : ℕ → ℕ) (n : ℕ) (b : ℕ → K) → swapped offset n (unswapped offset n b) ≡ b

  -- How many columns, each a combination of r columns A j, can be independent.
  pub record ColumnsHaveDimension : Type 0 where
    -- more than r depend on each other
    pub more_depend : (m r n : ℕ) (A B : ℕ → ℕ → K) → ((j : ℕ) → j < n → CombinationOf F m r A (B j)) → r < n → Dependent F m n B
    -- independent ones are r at most
    pub independent_no_more : (m r n : ℕ) (A B : ℕ → ℕ → K) → ((j : ℕ) → j < n → CombinationOf F m r A (B j)) → Independent F m n B → n ≤ r
    -- no independent selection from them is longer than r
    pub selection_no_longer : (m r n k : ℕ) (A B : ℕ → ℕ → K) (place : ℕ → ℕ) → ((j : ℕ) → j < n → CombinationOf F m r A (B j))
        → Selection n k place → Independent F m k (λ j. B (place j)) → k ≤ r
    -- a selection from independent columns is independent
    pub selection_independent : (m n k : ℕ) (B : ℕ → ℕ → K) (place : ℕ → ℕ)
        → Selection n k place → Independent F m n B → Independent F m k (λ j. B (place j))

  -- A column is a combination of others, or there is a motion, and never both.
  pub record OneOfTwo : Type 0 where
    pub either : (m r : ℕ) (A : ℕ → ℕ → K) (b : ℕ → K) → CombinationOf F m r A b ⊎ ((w : ℕ → K) × Motion F m r A b w)
    pub never_both : (m r : ℕ) (A : ℕ → ℕ → K) (b w : ℕ → K) → Motion F m r A b w → ¬ CombinationOf F m r A b

  -- What valid factors tell about the columns that they rebuild.
  pub record FactorsDecide (s : Packed K) : Type 0 where
    -- P A = L U, L unit lower, U upper and nowhere zero on its diagonal
    pub lower_unit : UnitLower F s.rank (lower F s)
    pub upper_diagonal : Upper F s.rank (upper F s)
    pub product : (j : ℕ) → permuted s (rebuilt F s j) ≡ multiply F s.rank (lower F s) (upper F s) j
    pub independent : Independent F s.height s.rank (rebuilt F s)
    pub combination_exactly_if_rest_zero : (b : ℕ → K) → CombinationOf F s.height s.rank (rebuilt F s) b ↔ RestZero F s b
    pub combination_by_back_substitution : (b : ℕ → K) → RestZero F s b
        → (i : ℕ) → i < s.height → combine F s.rank (rebuilt F s) (combination F s (worked F s b)) i ≡ b i
    pub combination_unique : (b x y : ℕ → K) → ((i : ℕ) → i < s.height → combine F s.rank (rebuilt F s) x i ≡ b i)
        → ((i : ℕ) → i < s.height → combine F s.rank (rebuilt F s) y i ≡ b i) → (j : ℕ) → j < s.rank → x j ≡ y j
    -- its coefficients from the rank on are zero
    pub combination_ends : (w : ℕ → K) (j : ℕ) → s.rank ≤ j → combination F s w j ≡ 𝟘
    -- any entry of the rest that is not zero shows a motion
    pub else_motion : (b : ℕ → K) (q : ℕ) → s.rank + q < s.height → ¬ (worked F s b (s.rank + q) ≡ 𝟘)
        → Motion F s.height s.rank (rebuilt F s) b (motion F s (worked F s b) q)
    -- the assignment of any targets meets them
    pub assignment_meets : (t : ℕ → K) (j : ℕ) → j < s.rank → dot F s.height (assignment F s t) (rebuilt F s j) ≡ t j
    pub assignment_ends : (t : ℕ → K) (i : ℕ) → s.height ≤ i → assignment F s t i ≡ 𝟘
    -- and is the only one if the columns are as many as the rows
    pub assignment_unique : s.rank ≡ s.height → (x y : ℕ → K)
        → ((j : ℕ) → j < s.rank → dot F s.height x (rebuilt F s j) ≡ dot F s.height y (rebuilt F s j)) → (i : ℕ) → i < s.height → x i ≡ y i
    pub determinant_by_factors : s.rank ≡ s.height → determinant F s.height (rebuilt F s) ≡ factored_determinant F s

  -- The factors after the column b is taken with pick q.
  pub record Taking (s : Packed K) (b : ℕ → K) (q : ℕ) : Type 0 where
    pub valid : Valid F (extended F s (worked F s b) q)
    -- the columns rebuilt are the old ones, then b
    pub old : (j : ℕ) → j < s.rank → rebuilt F (extended F s (worked F s b) q) j ≡ rebuilt F s j
    pub new : rebuilt F (extended F s (worked F s b) q) s.rank ≡ b
    -- another column worked before goes on by one exchange and one step
    pub goes_on : (d : ℕ → K) → worked F (extended F s (worked F s b) q) d ≡ advanced F s (worked F s b) q (worked F s d)

  -- Factors u that agree with valid factors s in what is stored are valid and rebuild the same columns.
  pub record OnlyStoredCounts (s u : Packed K) : Type 0 where
    pub valid : Valid F u
    pub same_columns : (j i : ℕ) → j < s.rank → i < s.height → rebuilt F s j i ≡ rebuilt F u j i

  pub record Theory : Type 0 where
    -- entry i less the sum of L(i,j) times entry j
    pub left_is_less_the_sum : (L : ℕ → ℕ → K) (b : ℕ → K) (k i : ℕ) → left F L b k i ≡ b i ⊕ ⊖ total F k (λ j. L j i ⊙ left F L b j j)
    -- so is a solved row, of what the rows before it are solved to
    pub solved_is_less_the_sum : (L : ℕ → ℕ → K) (c : ℕ) (b : ℕ → K) (i : ℕ) → i < c → solved F L c b i ≡ b i ⊕ ⊖ total F i (λ j. L j i ⊙ solved F L c b j)
    -- a column is worked by the three workings: swapped, solved and reduced
    pub worked_by_the_workings : (s : Packed K) (b : ℕ → K) → worked F s b ≡ reduced F s.entry s.rank (solved F s.entry s.rank (permuted s b))
    -- the place found is not zero and all before it are, or all are zero
    pub lead_is_first : (n : ℕ) (f : ℕ → K)
        → MatchOption (lead F n f) ((i : ℕ) → i < n → f i ≡ 𝟘) (λ i. (i < n) × ¬ (f i ≡ 𝟘) × ((k : ℕ) → k < i → f k ≡ 𝟘))
    pub swaps_undo : SwapsUndo
    pub columns_have_dimension : ColumnsHaveDimension
    pub one_of_two : OneOfTwo
    pub factors_decide : (s : Packed K) → Valid F s → FactorsDecide s
    pub taking : (s : Packed K) (b : ℕ → K) (q : ℕ) → Valid F s → s.rank + q < s.height → ¬ (worked F s b (s.rank + q) ≡ 𝟘) → Taking s b q
    pub only_stored_counts : (s u : Packed K) → Alike s u → Valid F s → OnlyStoredCounts s u
