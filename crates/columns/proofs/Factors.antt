-- What packed factors tell about the columns that they rebuild.
use Rattle.std.proofs.Common.{◌≡◌, ℕ, ◌<◌, ◌≤◌, ◌↔◌, sym, refl, ap, ◌∙◌, ap₂, arith}
use native.Mathlib.Decide.{ℕ_discrete, dec_lt, dec_le}
use Rattle.arithmetic.specs.Fields.{Field, Lawful}
use Rattle.columns.specs.Linear.{combine, multiply, CombinationOf, Independent}
use Rattle.columns.specs.Swaps.{choose, unswapped}
use Rattle.columns.specs.Factors.{Packed, permuted, Alike, UnitLower, Upper, lower, upper, Valid, eliminated, worked, RestZero, back, combination, rebuilt}
use Rattle.columns.proofs.Places.{choose_yes, choose_no}
use Rattle.columns.proofs.Sums.{total_cong}
use Rattle.columns.proofs.Combinations.{independent_unique}
use Rattle.columns.proofs.Swaps.{swaps_undone, swaps_redone, unswapped_alike, from, to, swapped_from, unswapped_to, from_below, to_below}
use Rattle.columns.proofs.Eliminations.{first_rows_gone, back_zeros, back_cong, multiply_independent, none_left_combines, combination_leaves_none}

module _ {K : Type 0} (F : Field K) where
  infixl 70 ◌⊙◌
  open F use {zero as 𝟘, one as 𝟙, product as ◌⊙◌}

  -- L U
  abbrev pub LU : Packed K → ℕ → ℕ → K
  LU s = multiply F s.rank (lower F s) (upper F s)

  -- L and U by places.
  module _ (s : Packed K) where
    pub lower_below : (j i : ℕ) → j < i → lower F s j i ≡ s.entry j i
    unfolding lower
    lower_below j i l = choose_yes (dec_lt j i) _ _ l

    pub lower_on : (j : ℕ) → lower F s j j ≡ 𝟙
    unfolding lower
    lower_on j = choose_no (dec_lt j j) _ _ (omega arith) ∙ choose_yes (ℕ_discrete j j) _ _ refl

    pub lower_above : (j i : ℕ) → i < j → lower F s j i ≡ 𝟘
    unfolding lower
    lower_above j i l = choose_no (dec_lt j i) _ _ (omega arith) ∙ choose_no (ℕ_discrete j i) _ _ (omega arith)

    pub upper_in : (j i : ℕ) → i ≤ j → upper F s j i ≡ s.entry j i
    unfolding upper
    upper_in j i l = choose_yes (dec_le i j) _ _ l

    pub upper_out : (j i : ℕ) → j < i → upper F s j i ≡ 𝟘
    unfolding upper
    upper_out j i l = choose_no (dec_le i j) _ _ (omega arith)

    pub unit_lower : UnitLower F s.rank (lower F s)
    unit_lower = record { diagonal = λ j l. lower_on j; above = λ j i l q. lower_above j i q }

    pub valid_upper : Valid F s → Upper F s.rank (upper F s)
    valid_upper v = record { diagonal = λ j l e. v.diagonal j l (sym (upper_in j j (omega arith)) ∙ e); below = λ j i l q. upper_out j i q }

  -- equal entries give equal factors
  pub lower_same : (s u : Packed K) (j i : ℕ) → s.entry j i ≡ u.entry j i → lower F s j i ≡ lower F u j i
  unfolding lower
  lower_same s u j i e = ap (λ t. choose (dec_lt j i) t (choose (ℕ_discrete j i) 𝟙 𝟘)) e

  pub upper_same : (s u : Packed K) (j i : ℕ) → s.entry j i ≡ u.entry j i → upper F s j i ≡ upper F u j i
  unfolding upper
  upper_same s u j i e = ap (λ t. choose (dec_le i j) t 𝟘) e

  module _ (s : Packed K) where
    -- the two parts of a worked column
    pub worked_solved : (b : ℕ → K) (i : ℕ) → i ≤ s.rank → worked F s b i ≡ eliminated F s b i i
    unfolding worked
    worked_solved b i l = ap (λ k. eliminated F s b k i) (omega arith)

    pub worked_rest : (b : ℕ → K) (i : ℕ) → s.rank ≤ i → worked F s b i ≡ eliminated F s b s.rank i
    unfolding worked
    worked_rest b i l = ap (λ k. eliminated F s b k i) (omega arith)

    -- P A = L U
    pub rebuilt_swapped : (j : ℕ) → permuted s (rebuilt F s j) ≡ LU s j
    unfolding rebuilt
    rebuilt_swapped j = swaps_redone s.offset s.rank _

    pub rebuilt_to : (j i : ℕ) → rebuilt F s j i ≡ LU s j (to s.offset s.rank i)
    unfolding rebuilt
    rebuilt_to j i = unswapped_to s.offset s.rank _ i

    combine_rebuilt : (x : ℕ → K) (i : ℕ) → combine F s.rank (rebuilt F s) x i ≡ combine F s.rank (LU s) x (to s.offset s.rank i)
    combine_rebuilt x i = total_cong F s.rank _ _ (λ j l. ap (λ t. t ⊙ x j) (rebuilt_to j i))

    combine_product : (x : ℕ → K) (i : ℕ) → combine F s.rank (LU s) x i ≡ combine F s.rank (rebuilt F s) x (from s.offset s.rank i)
    combine_product x i = total_cong F s.rank _ _ (λ j l. ap (λ t. t ⊙ x j) (entry j))
      where
        entry : (j : ℕ) → LU s j i ≡ rebuilt F s j (from s.offset s.rank i)
        entry j = ap (λ (c : ℕ → K). c i) (sym (rebuilt_swapped j)) ∙ swapped_from s.offset s.rank (rebuilt F s j) i

    pub combination_ends : (w : ℕ → K) (j : ℕ) → s.rank ≤ j → combination F s w j ≡ 𝟘
    unfolding combination
    combination_ends w = back_zeros F (upper F s) s.rank w

  -- Only what is stored counts.
  module _ (s u : Packed K) (e : Alike s u) (v : Valid F s) where
    pub alike_valid : Valid F u
    alike_valid =
        let h = e.height in
        let r = e.rank in
        let f = v.fits in
        record {
          fits = omega arith;
          inside = λ k l. let o = e.offset k (omega arith) in let i = v.inside k (omega arith) in omega arith;
          diagonal = λ j l z. v.diagonal j (omega arith) (e.entry j j (omega arith) (omega arith) ∙ z);
        }

    pub alike_rebuilt : (j i : ℕ) → j < s.rank → i < s.height → rebuilt F s j i ≡ rebuilt F u j i
    unfolding rebuilt
    alike_rebuilt j i l q =
        rebuilt_to s j i
        ∙ total_cong F s.rank _ _ (λ k o. ap₂ ◌⊙◌ (same_lower k o) (same_upper k o))
        ∙ sym (unswapped_to s.offset s.rank (multiply F s.rank (lower F u) (upper F u) j) i)
        ∙ ap (λ (c : ℕ → K). c i) (unswapped_alike s.offset u.offset s.rank _ e.offset)
        ∙ ap (λ r. unswapped u.offset r (multiply F r (lower F u) (upper F u) j) i) e.rank
      where
        row : ℕ
        row = to s.offset s.rank i

        same_lower : (k : ℕ) → k < s.rank → lower F s k row ≡ lower F u k row
        same_lower k o = lower_same s u k row (e.entry k row o (to_below s.offset s.height s.rank i v.inside q))

        same_upper : (k : ℕ) → k < s.rank → upper F s j k ≡ upper F u j k
        same_upper k o = upper_same s u j k (e.entry j k l (let f = v.fits in omega arith))

module _ {K : Type 0} (F : Field K) (W : Lawful F) (s : Packed K) where
  open F use {zero as 𝟘}

  pub solved_gone : (b : ℕ → K) (i : ℕ) → i < s.rank → eliminated F s b s.rank i ≡ 𝟘
  solved_gone b = first_rows_gone F W (lower F s) s.rank (unit_lower F s) (permuted s b)

  -- a zero rest leaves nothing
  none_left : (b : ℕ → K) → RestZero F s b → (i : ℕ) → i < s.height → eliminated F s b s.rank i ≡ 𝟘
  none_left b rest i l = go (dec_lt i s.rank)
    where
      go : Dec (i < s.rank) → eliminated F s b s.rank i ≡ 𝟘
      go (yes q) = solved_gone b i q
      go (no q) = sym (worked_rest F s b i (omega arith)) ∙ rest i (omega arith) l

  module _ (v : Valid F s) where
    from_inside : (i : ℕ) → i < s.height → from s.offset s.rank i < s.height
    from_inside i = from_below s.offset s.height s.rank i v.inside

    to_inside : (i : ℕ) → i < s.height → to s.offset s.rank i < s.height
    to_inside i = to_below s.offset s.height s.rank i v.inside

    pub rebuilt_independent : Independent F s.height s.rank (rebuilt F s)
    rebuilt_independent x zeros = free x (λ i l. combine_product F s x i ∙ zeros _ (from_inside i l))
      where
        free : Independent F s.height s.rank (LU F s)
        free = multiply_independent F W s.height s.rank (lower F s) (upper F s) v.fits (unit_lower F s) (valid_upper F s v)

    pub combination_unique : (b x y : ℕ → K) → ((i : ℕ) → i < s.height → combine F s.rank (rebuilt F s) x i ≡ b i)
        → ((i : ℕ) → i < s.height → combine F s.rank (rebuilt F s) y i ≡ b i) → (j : ℕ) → j < s.rank → x j ≡ y j
    combination_unique b x y e f =
        independent_unique F W s.height s.rank (rebuilt F s) x y rebuilt_independent (λ i l. e i l ∙ sym (f i l))

    pub rest_zero_combines : (b : ℕ → K) → RestZero F s b → (i : ℕ) → i < s.height
        → combine F s.rank (rebuilt F s) (combination F s (worked F s b)) i ≡ b i
    unfolding combination
    rest_zero_combines b rest i l =
        ap (λ (x : ℕ → K). combine F s.rank (rebuilt F s) x i) solved
        ∙ combine_rebuilt F s x i
        ∙ swapped_combines (to s.offset s.rank i) (to_inside i l)
        ∙ sym (unswapped_to s.offset s.rank (permuted s b) i)
        ∙ ap (λ (c : ℕ → K). c i) (swaps_undone s.offset s.rank b)
      where
        x : ℕ → K
        x = back F (upper F s) s.rank (λ j. eliminated F s b j j)

        solved : back F (upper F s) s.rank (worked F s b) ≡ x
        solved = back_cong F (upper F s) s.rank (worked F s b) _ (λ j q. worked_solved F s b j (omega arith))

        swapped_combines : (i : ℕ) → i < s.height → combine F s.rank (LU F s) x i ≡ permuted s b i
        swapped_combines =
            none_left_combines F W s.height s.rank (lower F s) (upper F s) v.fits (unit_lower F s) (valid_upper F s v) _ (none_left b rest)

    combination_rest_zero : (b : ℕ → K) → CombinationOf F s.height s.rank (rebuilt F s) b → RestZero F s b
    combination_rest_zero b (x, e) i q l = worked_rest F s b i q ∙ none i l
      where
        swapped_combination : CombinationOf F s.height s.rank (LU F s) (permuted s b)
        swapped_combination = (x, λ i l. combine_product F s x i ∙ e _ (from_inside i l) ∙ sym (swapped_from s.offset s.rank b i))

        none : (i : ℕ) → i < s.height → eliminated F s b s.rank i ≡ 𝟘
        none = combination_leaves_none F W s.height s.rank (lower F s) (upper F s) v.fits (unit_lower F s) _ swapped_combination

    pub combination_exactly : (b : ℕ → K) → CombinationOf F s.height s.rank (rebuilt F s) b ↔ RestZero F s b
    combination_exactly b = (combination_rest_zero b, λ rest. (combination F s (worked F s b), rest_zero_combines b rest))
