-- Runs in two parts: before a place, and from it on.
use Rattle.std.proofs.Common.{◌≡◌, ℕ, suc, ◌<◌, ◌≤◌, sym, ◌∙◌, ap₂, arith}
use mathlib.Core.Path.{fun_ext}
use native.Mathlib.Decide.{dec_lt}
use Rattle.columns.specs.Swaps.{put, joined}
use Rattle.columns.proofs.Places.{joined_low, joined_high, joined_next}

-- equal in both parts
pub by_parts : {A : Type 0} (k : ℕ) (x y : ℕ → A) → ((j : ℕ) → j < k → x j ≡ y j) → ((j : ℕ) → k ≤ j → x j ≡ y j) → x ≡ y
by_parts k x y low high = fun_ext (λ j. go j (dec_lt j k))
  where
    go : (j : ℕ) → Dec (j < k) → x j ≡ y j
    go j (yes l) = low j l
    go j (no l) = high j (omega arith)

-- places from k on do not count
pub joined_alike : {A : Type 0} (k : ℕ) (x z y : ℕ → A) → ((j : ℕ) → j < k → x j ≡ z j) → joined k x y ≡ joined k z y
joined_alike k x z y e =
    by_parts k _ _ (λ j l. joined_low k x y j l ∙ e j l ∙ sym (joined_low k z y j l)) (λ j l. joined_high k x y j l ∙ sym (joined_high k z y j l))

-- one place more
pub joined_more : {A : Type 0} (k : ℕ) (x z y : ℕ → A) (a : A) → x k ≡ a → ((j : ℕ) → j < k → x j ≡ z j) → joined (suc k) x y ≡ put k a (joined k z y)
joined_more k x z y a e f = sym (joined_next k x y) ∙ ap₂ (put k) e (joined_alike k x z y f)

-- the second part is the same anyway
pub joined_same : {A : Type 0} (k : ℕ) (x y : ℕ → A) → ((j : ℕ) → k ≤ j → x j ≡ y j) → joined k x y ≡ x
joined_same k x y e = by_parts k _ _ (joined_low k x y) (λ j l. joined_high k x y j l ∙ sym (e j l))
