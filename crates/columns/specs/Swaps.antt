-- Rows that change places, one pair after another.
use Rattle.std.specs.Prelude.{ℕ, zero, suc, ◌+◌}
use Rattle.std.proofs.Math.Decide.{ℕ_discrete, dec_lt}

-- one of two, by a decision
abbrev pub choose : {A P : Type 0} → Dec P → A → A → A
choose (yes h) a b = a
choose (no h) a b = b

-- x with a at place r
abbrev pub put : {A : Type 0} → ℕ → A → (ℕ → A) → ℕ → A
put r a x j = choose (ℕ_discrete j r) a (x j)

-- x before place k, y from there on
unfoldable pub joined : {A : Type 0} → ℕ → (ℕ → A) → (ℕ → A) → ℕ → A
joined k x y j = choose (dec_lt j k) (x j) (y j)

-- places p and q change places
unfoldable pub exchange : ℕ → ℕ → ℕ → ℕ
exchange p q i = choose (ℕ_discrete i p) q (choose (ℕ_discrete i q) p i)

-- row k with row k + offset k, for k = 0, 1 and so on below n
abbrev pub swapped : {X : Type 0} → (ℕ → ℕ) → ℕ → (ℕ → X) → ℕ → X
swapped offset zero b = b
swapped offset (suc k) b = λ i. swapped offset k b (exchange k (k + offset k) i)

-- the same exchanges backwards: undone
abbrev pub unswapped : {X : Type 0} → (ℕ → ℕ) → ℕ → (ℕ → X) → ℕ → X
unswapped offset zero b = b
unswapped offset (suc k) b = unswapped offset k (λ i. b (exchange k (k + offset k) i))
