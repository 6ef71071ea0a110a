-- A finite field seen through codes: its operations, and the laws that an arithmetic owes.
use Rattle.std.specs.Prelude.{◌≡◌, ℕ, ◌^◌, ◌<◌, ℤ, pos, ◌+ℤ◌}

-- the operations on values; `code` numbers the values, and `bring` takes a whole number in
pub record Field (K : Type 0) : Type 0 where
  pub zero : K
  pub one : K
  pub sum : K → K → K
  pub negative : K → K
  pub product : K → K → K
  pub inverse : K → K
  pub bring : ℤ → K
  pub code : K → ℕ
  pub order : ℕ

-- values with their operations: what a trait's member can be
pub record Arith : Type 1 where
  pub Carrier : Type 0
  pub ops : Field Carrier

module _ {K : Type 0} (F : Field K) where
  infixl 65 ◌⊕◌
  infixl 70 ◌⊙◌
  infix 80 ⊖◌
  open F use {zero as 𝟘, one as 𝟙, sum as ◌⊕◌, negative as ⊖◌, product as ◌⊙◌, inverse, bring, code, order}

  pub record Lawful : Type 0 where
    pub sum_assoc : (x y z : K) → (x ⊕ y) ⊕ z ≡ x ⊕ (y ⊕ z)
    pub sum_comm : (x y : K) → x ⊕ y ≡ y ⊕ x
    pub sum_zero : (x : K) → x ⊕ 𝟘 ≡ x
    pub sum_negative : (x : K) → x ⊕ (⊖ x) ≡ 𝟘
    pub product_assoc : (x y z : K) → (x ⊙ y) ⊙ z ≡ x ⊙ (y ⊙ z)
    pub product_comm : (x y : K) → x ⊙ y ≡ y ⊙ x
    pub product_one : (x : K) → x ⊙ 𝟙 ≡ x
    pub distrib : (x y z : K) → x ⊙ (y ⊕ z) ≡ (x ⊙ y) ⊕ (x ⊙ z)
    pub product_inverse : (x : K) → ¬ (x ≡ 𝟘) → x ⊙ inverse x ≡ 𝟙
    pub inverse_zero : inverse 𝟘 ≡ 𝟘
    pub apart : ¬ (𝟘 ≡ 𝟙)
    -- values of equal code are equal
    pub code_same : (x y : K) → code x ≡ code y → x ≡ y
    pub code_zero : code 𝟘 ≡ 0
    pub code_below : (x : K) → code x < order
    pub order_below : order < 2 ^ 32
    -- whole numbers come in by counting, up from zero and down from it
    pub bring_zero : bring (pos 0) ≡ 𝟘
    pub bring_next : (n : ℤ) → bring (n +ℤ pos 1) ≡ bring n ⊕ 𝟙

  -- what a code alone settles: arguments of equal codes have results of equal codes
  pub record SettledByCodes : Type 0 where
    pub sums : (a b x y : K) → code a ≡ code b → code x ≡ code y → code (a ⊕ x) ≡ code (b ⊕ y)
    pub negatives : (a b : K) → code a ≡ code b → code (⊖ a) ≡ code (⊖ b)
    pub products : (a b x y : K) → code a ≡ code b → code x ≡ code y → code (a ⊙ x) ≡ code (b ⊙ y)
    pub inverses : (a b : K) → code a ≡ code b → code (inverse a) ≡ code (inverse b)

  -- a field in which everything is zero
  abbrev pub AllZero : Type 0
  AllZero = (x : K) → x ≡ 𝟘
