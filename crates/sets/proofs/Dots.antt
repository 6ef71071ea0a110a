-- Sums of products of runs and of parts of runs.
use Rattle.std.proofs.Common.{◌≡◌, ℕ, zero, suc, ◌+◌, ◌-◌, ◌<◌, ◌≤◌, min, List, length, take, drop, ap, ◌∙◌, ap₂, arith}
use Rattle.std.proofs.lemmas.List.{length-take-le, length-drop}
use Rattle.arithmetic.specs.Fields.{Field, Lawful}
use Rattle.arithmetic.specs.Runs.{row, total, dot}
use Rattle.columns.specs.Swaps.{joined}
use Rattle.columns.proofs.Rings.{zero_by_left}
use Rattle.columns.proofs.Places.{joined_low, joined_high}
use Rattle.columns.proofs.Sums.{total_cong, total_zeros}

-- a part from a to e
pub part_length : {X : Type 0} (a e : ℕ) (xs : List X) → a ≤ e → e ≤ length xs → length (take (e - a) (drop a xs)) ≡ e - a
part_length a e xs l room = length-take-le (e - a) (drop a xs) (omega (arith, length-drop a xs))

module _ {K X : Type 0} (F : Field K) (value : X → K) where
  -- two runs, by what they hold in their first n places
  pub dot_runs : (n : ℕ) (us vs : List X) (x y : ℕ → K) → min (length us) (length vs) ≡ n
      → ((k : ℕ) → k < n → row F value us k ≡ x k) → ((k : ℕ) → k < n → row F value vs k ≡ y k)
      → dot F (min (length us) (length vs)) (row F value us) (row F value vs) ≡ dot F n x y
  dot_runs n us vs x y e left right =
      ap (λ k. dot F k (row F value us) (row F value vs)) e ∙ total_cong F n _ _ (λ k l. ap₂ F.product (left k l) (right k l))

module _ {K : Type 0} (F : Field K) (W : Lawful F) where
  -- zeros first
  pub total_from : (k n : ℕ) (f : ℕ → K) → ((i : ℕ) → i < k → f i ≡ F.zero) → total F (k + n) f ≡ total F n (λ i. f (k + i))
  total_from k zero f zeros = ap (λ m. total F m f) {x = k + zero} (omega arith) ∙ total_zeros F W k f zeros
  total_from k (suc n) f zeros =
      ap (λ m. total F m f) {x = k + suc n} {y = suc (k + n)} (omega arith) ∙ ap (λ t. F.sum t (f (k + n))) (total_from k n f zeros)

  -- zeros last
  pub total_to : (n k : ℕ) (f : ℕ → K) → ((i : ℕ) → n ≤ i → f i ≡ F.zero) → total F (n + k) f ≡ total F n f
  total_to n zero f zeros = ap (λ m. total F m f) {x = n + zero} (omega arith)
  total_to n (suc k) f zeros =
      ap (λ m. total F m f) {x = n + suc k} {y = suc (n + k)} (omega arith)
      ∙ ap₂ F.sum (total_to n k f zeros) (zeros (n + k) (omega arith)) ∙ W.sum_zero (total F n f)

  -- the places from p on
  pub dot_after : (p m : ℕ) (y u : ℕ → K) → p ≤ m → dot F m (joined p (λ i. F.zero) y) u ≡ dot F (m - p) (λ i. y (p + i)) (λ i. u (p + i))
  dot_after p m y u le =
      let z = joined p (λ i. F.zero) y in
      ap (λ n. dot F n z u) {x = m} {y = p + (m - p)} (omega arith)
      ∙ total_from p (m - p) (λ i. F.product (z i) (u i)) (λ i l. zero_by_left F W (u i) (joined_low p _ y i l))
      ∙ total_cong F (m - p) _ _ (λ i l. ap (λ a. F.product a (u (p + i))) (joined_high p _ y (p + i) (omega arith)))
