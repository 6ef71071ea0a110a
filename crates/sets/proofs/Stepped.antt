-- A column worked before a taking, stepped by the column taken.
use Rattle.std.proofs.Common.{◌≡◌, ℕ, ◌+◌, ◌<◌, ◌≤◌, sym, ◌∙◌, ap₂, arith}
use native.Mathlib.Decide.{dec_lt}
use Rattle.arithmetic.specs.Fields.{Field, Lawful}
use Rattle.columns.specs.Swaps.{joined, exchange}
use Rattle.columns.specs.Factors.{Packed}
use Rattle.columns.proofs.Places.{choose_yes, choose_no, joined_low, joined_high}
use Rattle.columns.proofs.Rings.{ring, zero_by_left}
use Rattle.sets.specs.Workings.{stepped}
use Rattle.sets.proofs.Parts.{by_parts}

module _ {K : Type 0} (F : Field K) (s : Packed K) (r : ℕ) (x : ℕ → K) where
  infixl 65 ◌⊕◌
  infixl 70 ◌⊙◌
  infix 80 ⊖◌
  open F use {zero as 𝟘, sum as ◌⊕◌, negative as ⊖◌, product as ◌⊙◌}

  exchanged : ℕ → K
  exchanged i = x (exchange r (r + s.offset r) i)

  pub stepped_before : (i : ℕ) → i ≤ r → stepped F s r x i ≡ x (exchange r (r + s.offset r) i)
  unfolding stepped
  stepped_before i l = choose_no (dec_lt r i) _ _ (λ q. omega arith)

  pub stepped_after : (i : ℕ) → r < i → stepped F s r x i ≡ x (exchange r (r + s.offset r) i) ⊕ ⊖ (s.entry r i ⊙ x (exchange r (r + s.offset r) r))
  unfolding stepped
  stepped_after i l = choose_yes (dec_lt r i) _ _ l

  pub stepped_none : (i : ℕ) → i ≡ r + 1 → joined i (stepped F s r x) (λ j. x (exchange r (r + s.offset r) j)) ≡ (λ j. x (exchange r (r + s.offset r) j))
  stepped_none i e = by_parts i _ _
      (λ j l. joined_low i (stepped F s r x) _ j l ∙ stepped_before j (omega arith))
      (λ j l. joined_high i (stepped F s r x) _ j l)

  -- past the height, where all is zero, nothing changes
  pub stepped_all : Lawful F → (i m : ℕ) → m ≤ i → r < m → ((j : ℕ) → m ≤ j → x (exchange r (r + s.offset r) j) ≡ 𝟘) → ((j : ℕ) → m ≤ j → s.entry r j ≡ 𝟘)
      → joined i (stepped F s r x) (λ j. x (exchange r (r + s.offset r) j)) ≡ stepped F s r x
  stepped_all W i m le below flat past = by_parts i _ _
      (λ j l. joined_low i (stepped F s r x) _ j l)
      (λ j l.
      let zero_share = zero_by_left F W (x (exchange r (r + s.offset r) r)) (past j (omega arith)) in
      let here : stepped F s r x j ≡ 𝟘 = stepped_after j (omega arith) ∙ ap₂ (λ a b. a ⊕ ⊖ b) (flat j (omega arith)) zero_share ∙ simp ring in
      joined_high i (stepped F s r x) _ j l ∙ flat j (omega arith) ∙ sym here)
