-- Nothing but what is stored: zeros from the rank on and from the height on.
use Rattle.std.proofs.Common.{◌≡◌, ℕ, zero, suc, ◌+◌, ◌<◌, ◌≤◌, sym, refl, ap, ◌∙◌, ap₂, arith}
use mathlib.Core.Path.{fun_ext}
use native.Mathlib.Decide.{ℕ_discrete, dec_lt}
use Rattle.arithmetic.specs.Fields.{Field, Lawful}
use Rattle.columns.specs.Swaps.{put, exchange}
use Rattle.columns.specs.Factors.{Packed, Alike, permuted, restored, Valid, lower, worked, turned, divided, rebuilt, settled, motion}
use Rattle.columns.proofs.Rings.{sum_negative, zero_by_left}
use Rattle.columns.proofs.Places.{choose_yes, put_at, put_off}
use Rattle.columns.proofs.Sums.{total_zeros}
use Rattle.columns.proofs.Swaps.{exchange_else, swaps_undone, unswapped_to, to_above}
use Rattle.columns.proofs.Eliminations.{left_is_less_the_sum}
use Rattle.columns.proofs.Factors.{lower_below, worked_rest}
use Rattle.sets.specs.States.{State, made, taken_at}
use Rattle.sets.specs.Subject.{ZeroFrom}
use Rattle.sets.specs.Laws.{Ends}
use Rattle.sets.proofs.Parts.{by_parts}

module _ {K : Type 0} (F : Field K) where
  open F use {zero as 𝟘, inverse}

  pub made_ends : (m : ℕ) → Ends F (made F m)
  made_ends m = record { columns = λ j i l. refl; rows = λ j i l. refl; offsets = λ k l. refl; targets = λ j l. refl }

  -- rows from k on are not settled
  settled_high : (L : ℕ → ℕ → K) (m : ℕ) (g : ℕ → K) (k : ℕ) (z : ℕ → K) (i : ℕ) → k ≤ i → settled F L m g k z i ≡ z i
  unfolding settled
  settled_high L m g zero z i l = refl
  settled_high L m g (suc k) z i l = settled_high L m g k _ i (omega arith) ∙ put_off k _ z i (omega arith)

  -- P moves no row from the height on
  restored_above : (s : Packed K) → Valid F s → (c : ℕ → K) (i : ℕ) → s.height ≤ i → restored s c i ≡ c i
  restored_above s v c i l = unswapped_to s.offset s.rank c i ∙ ap c (to_above s.offset s.height s.rank i v.inside l)

  permuted_above : (s : Packed K) → Valid F s → (c : ℕ → K) (i : ℕ) → s.height ≤ i → permuted s c i ≡ c i
  permuted_above s v c i l = sym (restored_above s v (permuted s c) i l) ∙ ap (λ (c : ℕ → K). c i) (swaps_undone s.offset s.rank c)

  -- the motion shown by an entry inside moves none but the unknowns
  pub motion_ends : (s : Packed K) → Valid F s → (w : ℕ → K) (q : ℕ) → s.rank + q < s.height → ZeroFrom F s.height (motion F s w q)
  unfolding motion
  motion_ends s v w q l i o =
      restored_above s v _ i o
      ∙ settled_high (lower F s) s.height (λ k. 𝟘) s.rank start i (let f = v.fits in omega arith)
      ∙ put_off (s.rank + q) (inverse (w (s.rank + q))) (λ k. 𝟘) i (omega arith)
    where
      start : ℕ → K
      start = put (s.rank + q) (inverse (w (s.rank + q))) (λ k. 𝟘)

  -- a place that is stored in both, or a zero in both
  stored_or_zero : {X : Type 0} (n : ℕ) (x y : ℕ → X) (z : X) → ((j : ℕ) → j < n → x j ≡ y j)
      → ((j : ℕ) → n ≤ j → x j ≡ z) → ((j : ℕ) → n ≤ j → y j ≡ z) → x ≡ y
  stored_or_zero n x y z same p q = by_parts n x y same (λ j l. p j l ∙ sym (q j l))

  state_by : ℕ → ℕ → (ℕ → ℕ → K) → (ℕ → ℕ) → (ℕ → K) → State K
  state_by m r A o t = record { factors = record { height = m; rank = r; entry = A; offset = o }; target = t }

  pub stored_equal : (s u : State K) → Ends F s → Ends F u → Alike s.factors u.factors
      → ((j : ℕ) → j < s.factors.rank → s.target j ≡ u.target j) → s ≡ u
  unfolding state_by
  stored_equal s u p q e t =
      ap₂ (λ m r. state_by m r s.factors.entry s.factors.offset s.target) e.height e.rank
      ∙ ap (λ (A : ℕ → ℕ → K). state_by u.factors.height u.factors.rank A s.factors.offset s.target) entries
      ∙ ap₂ (state_by u.factors.height u.factors.rank u.factors.entry)
      (stored_or_zero s.factors.rank _ _ 0 e.offset p.offsets (λ k l. q.offsets k (let r = e.rank in omega arith)))
      (stored_or_zero s.factors.rank _ _ 𝟘 t p.targets (λ j l. q.targets j (let r = e.rank in omega arith)))
    where
      column : (j : ℕ) → j < s.factors.rank → s.factors.entry j ≡ u.factors.entry j
      column j l = stored_or_zero s.factors.height _ _ 𝟘 (λ i. e.entry j i l) (p.rows j) (λ i o. q.rows j i (let h = e.height in omega arith))

      entries : s.factors.entry ≡ u.factors.entry
      entries =
          stored_or_zero s.factors.rank _ _ (λ i. 𝟘) column (λ j l. fun_ext (λ i. p.columns j i l))
          (λ j l. fun_ext (λ i. q.columns j i (let r = e.rank in omega arith)))

module _ {K : Type 0} (F : Field K) (W : Lawful F) (s : State K) (v : Valid F s.factors) (ends : Ends F s) where
  open F use {zero as 𝟘}

  -- L has nothing from the height on
  lower_ends : (j i : ℕ) → j < s.factors.rank → s.factors.height ≤ i → lower F s.factors j i ≡ 𝟘
  lower_ends j i l o = lower_below F s.factors j i (let f = v.fits in omega arith) ∙ ends.rows j i o

  pub rebuilt_ends : (j : ℕ) → ZeroFrom F s.factors.height (rebuilt F s.factors j)
  unfolding rebuilt
  rebuilt_ends j i o = restored_above F s.factors v _ i o ∙ total_zeros F W s.factors.rank _ (λ k l. zero_by_left F W _ (lower_ends k i l o))

  worked_ends : (b : ℕ → K) → ZeroFrom F s.factors.height b → ZeroFrom F s.factors.height (worked F s.factors b)
  worked_ends b zeros i o =
      worked_rest F s.factors b i (let f = v.fits in omega arith)
      ∙ left_is_less_the_sum F W (lower F s.factors) (permuted s.factors b) s.factors.rank i
      ∙ ap₂ (λ x y. F.sum x (F.negative y)) (permuted_above F s.factors v b i o ∙ zeros i o)
      (total_zeros F W s.factors.rank _ (λ j l. zero_by_left F W _ (lower_ends j i l o)))
      ∙ sum_negative F W 𝟘

  module _ (b : ℕ → K) (t : K) (q : ℕ) (zeros : ZeroFrom F s.factors.height b) (inside : s.factors.rank + q < s.factors.height) where
    -- the row that a row from the height on comes from
    same_row : (i : ℕ) → s.factors.height ≤ i → exchange s.factors.rank (s.factors.rank + q) i ≡ i
    same_row i o = exchange_else s.factors.rank (s.factors.rank + q) i (omega arith) (omega arith)

    divided_ends : ZeroFrom F s.factors.height (divided F s.factors (worked F s.factors b) q)
    unfolding divided turned
    divided_ends i o =
        choose_yes (dec_lt s.factors.rank i) _ _ (omega arith)
        ∙ zero_by_left F W _ (ap (worked F s.factors b) (same_row i o) ∙ worked_ends b zeros i o)

    pub taken_ends : Ends F (taken_at F s (worked F s.factors b) t q)
    taken_ends = record {
      columns = λ j i l. ap (λ (c : ℕ → K). c i) (put_off s.factors.rank new old j (omega arith)) ∙ ends.columns j (turn i) (omega arith);
      rows = λ j i o. go j i o (ℕ_discrete j s.factors.rank);
      offsets = λ k l. put_off s.factors.rank q s.factors.offset k (omega arith) ∙ ends.offsets k (omega arith);
      targets = λ j l. put_off s.factors.rank t s.target j (omega arith) ∙ ends.targets j (omega arith);
    }
      where
        new : ℕ → K
        new = divided F s.factors (worked F s.factors b) q

        turn : ℕ → ℕ
        turn = exchange s.factors.rank (s.factors.rank + q)

        old : ℕ → ℕ → K
        old j i = s.factors.entry j (turn i)

        go : (j i : ℕ) → s.factors.height ≤ i → Dec (j ≡ s.factors.rank) → put s.factors.rank new old j i ≡ 𝟘
        go j i o (yes e) = ap (λ j. put s.factors.rank new old j i) e ∙ ap (λ (c : ℕ → K). c i) (put_at s.factors.rank new old) ∙ divided_ends i o
        go j i o (no e) =
            ap (λ (c : ℕ → K). c i) (put_off s.factors.rank new old j e) ∙ ap (s.factors.entry j) (same_row i o) ∙ ends.rows j i o
