-- The factors after one more column is taken.
use Rattle.std.proofs.Common.{◌≡◌, ℕ, zero, suc, ◌+◌, ◌<◌, ◌≤◌, sym, refl, ap, ◌∙◌, ap₂, arith}
use mathlib.Core.Path.{fun_ext}
use native.Mathlib.Decide.{ℕ_discrete, dec_lt, dec_le}
use Rattle.arithmetic.specs.Fields.{Field, Lawful}
use Rattle.columns.specs.Linear.{combine, multiply}
use Rattle.columns.specs.Swaps.{exchange}
use Rattle.columns.specs.Factors.{Packed, permuted, restored, lower, upper, Valid, left, eliminated, worked, rebuilt, turned, divided, extended, advanced}
use Rattle.columns.proofs.Rings.{one_product, zero_by_left, zero_by_right, divide_back}
use Rattle.columns.proofs.Places.{below_next, choose_yes, choose_no, put_at, put_off}
use Rattle.columns.proofs.Sums.{total_cong}
use Rattle.columns.proofs.Swaps.{exchange_left, exchange_else, exchange_cases, exchange_twice, swaps_undone, swapped_alike, unswapped_alike}
use Rattle.columns.proofs.Eliminations.{left_and_gone}
use Rattle.columns.proofs.Factors.{LU, lower_below, lower_on, lower_above, lower_same, upper_in, upper_out, upper_same, worked_solved, worked_rest, solved_gone}

module _ {K : Type 0} (F : Field K) (W : Lawful F) where
  infixl 65 ◌⊕◌
  infixl 70 ◌⊙◌
  infix 80 ⊖◌
  open F use {zero as 𝟘, sum as ◌⊕◌, negative as ⊖◌, product as ◌⊙◌, inverse}

  -- The column b is taken with pick q.
  module _ (s : Packed K) (b : ℕ → K) (q : ℕ) where
    new : Packed K
    new = extended F s (worked F s b) q

    -- the exchange of that taking
    turn : ℕ → ℕ
    turn i = exchange s.rank (s.rank + q) i

    turn_low : (i : ℕ) → i < s.rank → turn i ≡ i
    unfolding turn
    turn_low i l = exchange_else s.rank (s.rank + q) i (omega arith) (omega arith)

    turn_high : (i : ℕ) → s.rank ≤ i → s.rank ≤ turn i
    unfolding turn
    turn_high i l = exchange_cases (λ k. s.rank ≤ k) s.rank (s.rank + q) i (omega arith) (omega arith) l

    turn_twice : (i : ℕ) → turn (turn i) ≡ i
    unfolding turn
    turn_twice i = exchange_twice s.rank (s.rank + q) i

    turn_rank : turn s.rank ≡ s.rank + q
    unfolding turn
    turn_rank = exchange_left s.rank (s.rank + q) s.rank refl

    -- Entries of the new factors.

    entry_old : (j i : ℕ) → j < s.rank → new.entry j i ≡ s.entry j (turn i)
    unfolding new turn
    entry_old j i l = ap (λ (c : ℕ → K). c i) (put_off s.rank (divided F s (worked F s b) q) (λ j i. s.entry j (turn i)) j (omega arith))

    entry_new : (i : ℕ) → new.entry s.rank i ≡ divided F s (worked F s b) q i
    unfolding new turn
    entry_new i = ap (λ (c : ℕ → K). c i) (put_at s.rank (divided F s (worked F s b) q) (λ j i. s.entry j (turn i)))

    offset_old : (k : ℕ) → k < s.rank → new.offset k ≡ s.offset k
    unfolding new
    offset_old k l = put_off s.rank q s.offset k (omega arith)

    offset_new : new.offset s.rank ≡ q
    unfolding new
    offset_new = put_at s.rank q s.offset

    lower_old : (j i : ℕ) → j < s.rank → lower F new j i ≡ lower F s j (turn i)
    lower_old j i l = go (dec_lt i s.rank)
      where
        go : Dec (i < s.rank) → lower F new j i ≡ lower F s j (turn i)
        go (yes h) = let e = turn_low i h in lower_same F new s j i (entry_old j i l ∙ ap (s.entry j) e) ∙ ap (lower F s j) (sym e)
        go (no h) = let o = turn_high i (omega arith) in
            lower_below F new j i (omega arith) ∙ entry_old j i l ∙ sym (lower_below F s j (turn i) (omega arith))

    upper_old : (j i : ℕ) → j < s.rank → upper F new j i ≡ upper F s j i
    upper_old j i l = go (dec_le i j)
      where
        go : Dec (i ≤ j) → upper F new j i ≡ upper F s j i
        go (yes h) = upper_same F new s j i (entry_old j i l ∙ ap (s.entry j) (turn_low i (omega arith)))
        go (no h) = upper_out F new j i (omega arith) ∙ sym (upper_out F s j i (omega arith))

    turned_rest : (i : ℕ) → s.rank ≤ i → turned F s (worked F s b) q i ≡ eliminated F s b s.rank (turn i)
    unfolding turned turn
    turned_rest i l = worked_rest F s b (turn i) (turn_high i l)

    divided_solved : (i : ℕ) → i ≤ s.rank → divided F s (worked F s b) q i ≡ worked F s b (turn i)
    unfolding divided turned turn
    divided_solved i l = choose_no (dec_lt s.rank i) _ _ (omega arith)

    upper_new : (k : ℕ) → k < s.rank → upper F new s.rank k ≡ eliminated F s b k k
    upper_new k l =
        upper_in F new s.rank k (omega arith) ∙ entry_new k ∙ divided_solved k (omega arith)
        ∙ ap (worked F s b) (turn_low k l) ∙ worked_solved F s b k (omega arith)

    corner : new.entry s.rank s.rank ≡ worked F s b (s.rank + q)
    corner = entry_new s.rank ∙ divided_solved s.rank (omega arith) ∙ ap (worked F s b) turn_rank

    -- The factors' product.

    lower_new : ¬ (worked F s b (s.rank + q) ≡ 𝟘) → (i : ℕ)
        → lower F new s.rank i ⊙ worked F s b (s.rank + q) ≡ eliminated F s b s.rank (turn i)
    unfolding divided turned
    lower_new h i = go (dec_lt i s.rank) (ℕ_discrete i s.rank)
      where
        c : K
        c = worked F s b (s.rank + q)

        go : Dec (i < s.rank) → Dec (i ≡ s.rank) → lower F new s.rank i ⊙ c ≡ eliminated F s b s.rank (turn i)
        go (yes l) d =
            zero_by_left F W c (lower_above F new s.rank i l)
            ∙ sym (ap (eliminated F s b s.rank) (turn_low i l) ∙ solved_gone F W s b i l)
        go (no l) (yes d) =
            ap (λ k. lower F new s.rank k ⊙ c) d ∙ ap (λ z. z ⊙ c) (lower_on F new s.rank) ∙ one_product F W c
            ∙ ap (worked F s b) (sym turn_rank ∙ ap turn (sym d)) ∙ worked_rest F s b (turn i) (turn_high i (omega arith))
        go (no l) (no d) =
            ap (λ z. z ⊙ c) (lower_below F new s.rank i (omega arith) ∙ entry_new i ∙ choose_yes (dec_lt s.rank i) _ _ (omega arith))
            ∙ ap (λ z. (turned F s (worked F s b) q i ⊙ inverse (worked F s b z)) ⊙ c) (exchange_left s.rank (s.rank + q) s.rank refl)
            ∙ divide_back F W (turned F s (worked F s b) q i) c h ∙ turned_rest i (omega arith)

    product_old : (j i : ℕ) → j < s.rank → LU F new j i ≡ LU F s j (turn i)
    unfolding new
    product_old j i l = ap₂ ◌⊕◌ before (zero_by_right F W _ (upper_out F new j s.rank l)) ∙ W.sum_zero _
      where
        before : multiply F s.rank (lower F new) (upper F new) j i ≡ LU F s j (turn i)
        before = total_cong F s.rank _ _ (λ k o. ap₂ ◌⊙◌ (lower_old k i o) (upper_old j k l))

    product_new : ¬ (worked F s b (s.rank + q) ≡ 𝟘) → (i : ℕ) → LU F new s.rank i ≡ permuted s b (turn i)
    unfolding new
    product_new h i = ap₂ ◌⊕◌ before last ∙ sym (left_and_gone F W (lower F s) (permuted s b) s.rank (turn i))
      where
        before : multiply F s.rank (lower F new) (upper F new) s.rank i ≡ combine F s.rank (lower F s) (λ k. eliminated F s b k k) (turn i)
        before = total_cong F s.rank _ _ (λ k o. ap₂ ◌⊙◌ (lower_old k i o) (upper_new k o))

        last : lower F new s.rank i ⊙ upper F new s.rank s.rank ≡ eliminated F s b s.rank (turn i)
        last = ap (λ z. lower F new s.rank i ⊙ z) (upper_in F new s.rank s.rank (omega arith) ∙ corner) ∙ lower_new h i

    -- P undone, the last exchange first
    undone : (c : ℕ → K) → restored new c ≡ restored s (λ i. c (turn i))
    unfolding turn new
    undone c =
        unswapped_alike new.offset s.offset s.rank _ offset_old
        ∙ ap (λ k. restored s (λ i. c (exchange s.rank (s.rank + k) i))) offset_new

    -- a column of the product with that exchange before it
    rebuilt_by : (j : ℕ) (c : ℕ → K) → ((i : ℕ) → LU F new j i ≡ c (turn i)) → rebuilt F new j ≡ restored s c
    unfolding rebuilt
    rebuilt_by j c e = undone (LU F new j) ∙ ap (restored s) (fun_ext (λ i. e (turn i) ∙ ap c (turn_twice i)))

    -- the columns before stay, although rows of L have changed places
    pub rebuilt_old : (j : ℕ) → j < s.rank → rebuilt F (extended F s (worked F s b) q) j ≡ rebuilt F s j
    unfolding rebuilt new
    rebuilt_old j l = rebuilt_by j (LU F s j) (λ i. product_old j i l)

    -- and b is next
    pub rebuilt_new : ¬ (worked F s b (s.rank + q) ≡ 𝟘) → rebuilt F (extended F s (worked F s b) q) s.rank ≡ b
    unfolding new
    rebuilt_new h = rebuilt_by s.rank (permuted s b) (product_new h) ∙ swaps_undone s.offset s.rank b

    pub valid_extended : Valid F s → s.rank + q < s.height → ¬ (worked F s b (s.rank + q) ≡ 𝟘) → Valid F (extended F s (worked F s b) q)
    unfolding new
    valid_extended v l h = record {
      fits = omega arith;
      inside = below_next (λ k. k + new.offset k < s.height) s.rank inside (rw offset_new l);
      diagonal = below_next (λ j. ¬ (new.entry j j ≡ 𝟘)) s.rank diagonal (λ z. h (sym corner ∙ z));
    }
      where
        inside : (k : ℕ) → k < s.rank → k + new.offset k < s.height
        inside k o = let d = offset_old k o in let i = v.inside k o in omega arith

        diagonal : (j : ℕ) → j < s.rank → ¬ (new.entry j j ≡ 𝟘)
        diagonal j o z = v.diagonal j o (ap (s.entry j) (sym (turn_low j o)) ∙ sym (entry_old j j o) ∙ z)

    -- Another column d, worked before.

    eliminated_old : (d : ℕ → K) (k i : ℕ) → k ≤ s.rank → eliminated F new d k i ≡ eliminated F s d k (turn i)
    unfolding left new turn
    eliminated_old d zero i l =
        ap (λ (c : ℕ → K). c (exchange s.rank (s.rank + new.offset s.rank) i)) (swapped_alike new.offset s.offset s.rank d offset_old)
        ∙ ap (λ k. permuted s d (exchange s.rank (s.rank + k) i)) offset_new
    eliminated_old d (suc k) i l =
        ap₂ (λ x y. x ⊕ ⊖ (y ⊙ eliminated F new d k k)) (eliminated_old d k i (omega arith)) (lower_old k i (omega arith))
        ∙ ap (λ x. eliminated F s d k (turn i) ⊕ ⊖ (lower F s k (turn i) ⊙ x)) (at_k (eliminated_old d k k (omega arith)))
      where
        at_k : eliminated F new d k k ≡ eliminated F s d k (turn k) → eliminated F new d k k ≡ eliminated F s d k k
        at_k e = e ∙ ap (eliminated F s d k) (turn_low k (omega arith))

    rest_old : (d : ℕ → K) (i : ℕ) → s.rank ≤ i → eliminated F new d s.rank i ≡ worked F s d (turn i)
    rest_old d i l = eliminated_old d s.rank i (omega arith) ∙ sym (worked_rest F s d (turn i) (turn_high i l))

    worked_low : (d : ℕ → K) (i : ℕ) → i ≤ s.rank → worked F new d i ≡ worked F s d (turn i)
    unfolding new
    worked_low d i l = worked_solved F new d i (omega arith) ∙ go (ℕ_discrete i s.rank)
      where
        go : Dec (i ≡ s.rank) → eliminated F new d i i ≡ worked F s d (turn i)
        go (yes e) = ap (λ k. eliminated F new d k i) e ∙ rest_old d i (omega arith)
        go (no e) =
            eliminated_old d i i l ∙ ap (eliminated F s d i) (turn_low i (omega arith))
            ∙ sym (worked_solved F s d i l) ∙ ap (worked F s d) (sym (turn_low i (omega arith)))

    worked_high : (d : ℕ → K) (i : ℕ) → s.rank < i
        → worked F new d i ≡ worked F s d (turn i) ⊕ ⊖ (divided F s (worked F s b) q i ⊙ worked F s d (s.rank + q))
    unfolding new left
    worked_high d i l = worked_rest F new d i (omega arith) ∙ ap₂ (λ x y. x ⊕ ⊖ y) (rest_old d i (omega arith)) (ap₂ ◌⊙◌ factor pivot)
      where
        factor : lower F new s.rank i ≡ divided F s (worked F s b) q i
        factor = lower_below F new s.rank i l ∙ entry_new i

        pivot : eliminated F new d s.rank s.rank ≡ worked F s d (s.rank + q)
        pivot = rest_old d s.rank (omega arith) ∙ ap (worked F s d) turn_rank

    pub worked_advanced : (d : ℕ → K) → worked F (extended F s (worked F s b) q) d ≡ advanced F s (worked F s b) q (worked F s d)
    unfolding advanced turned turn new
    worked_advanced d = fun_ext (λ i. go i (dec_lt s.rank i))
      where
        go : (i : ℕ) → Dec (s.rank < i) → worked F (extended F s (worked F s b) q) d i ≡ advanced F s (worked F s b) q (worked F s d) i
        go i (yes l) = worked_high d i l ∙ sym (choose_yes (dec_lt s.rank i) _ _ l)
        go i (no l) = worked_low d i (omega arith) ∙ sym (choose_no (dec_lt s.rank i) _ _ l)
