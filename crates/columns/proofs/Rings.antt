-- Sums, products and negatives in a field: rules that take both sides of an equation to one form.
use Rattle.std.proofs.Common.{◌≡◌, sym, ap, ◌∙◌, ap₂}
use Rattle.arithmetic.specs.Fields.{Field, Lawful}

module _ {K : Type 0} (F : Field K) (W : Lawful F) where
  infixl 65 ◌⊕◌
  infixl 70 ◌⊙◌
  infix 80 ⊖◌
  open F use {zero as 𝟘, one as 𝟙, sum as ◌⊕◌, negative as ⊖◌, product as ◌⊙◌, inverse}

  -- The laws again, as rules.

  pub sum_assoc : (x y z : K) → (x ⊕ y) ⊕ z ≡ x ⊕ (y ⊕ z)
  sum_assoc = W.sum_assoc

  pub sum_comm : (x y : K) → x ⊕ y ≡ y ⊕ x
  sum_comm = W.sum_comm

  pub sum_zero : (x : K) → x ⊕ 𝟘 ≡ x
  sum_zero = W.sum_zero

  pub sum_negative : (x : K) → x ⊕ ⊖ x ≡ 𝟘
  sum_negative = W.sum_negative

  pub product_assoc : (x y z : K) → (x ⊙ y) ⊙ z ≡ x ⊙ (y ⊙ z)
  product_assoc = W.product_assoc

  pub product_comm : (x y : K) → x ⊙ y ≡ y ⊙ x
  product_comm = W.product_comm

  pub product_one : (x : K) → x ⊙ 𝟙 ≡ x
  product_one = W.product_one

  pub distrib : (x y z : K) → x ⊙ (y ⊕ z) ≡ x ⊙ y ⊕ x ⊙ z
  distrib = W.distrib

  -- Their other sides.

  pub sum_left_comm : (x y z : K) → x ⊕ (y ⊕ z) ≡ y ⊕ (x ⊕ z)
  sum_left_comm x y z = sym (sum_assoc x y z) ∙ ap (λ t. t ⊕ z) (sum_comm x y) ∙ sum_assoc y x z

  pub product_left_comm : (x y z : K) → x ⊙ (y ⊙ z) ≡ y ⊙ (x ⊙ z)
  product_left_comm x y z = sym (product_assoc x y z) ∙ ap (λ t. t ⊙ z) (product_comm x y) ∙ product_assoc y x z

  pub distrib_right : (x y z : K) → (y ⊕ z) ⊙ x ≡ y ⊙ x ⊕ z ⊙ x
  distrib_right x y z = product_comm (y ⊕ z) x ∙ distrib x y z ∙ ap₂ ◌⊕◌ (product_comm x y) (product_comm x z)

  pub zero_sum : (x : K) → 𝟘 ⊕ x ≡ x
  zero_sum x = sum_comm 𝟘 x ∙ sum_zero x

  pub one_product : (x : K) → 𝟙 ⊙ x ≡ x
  one_product x = product_comm 𝟙 x ∙ product_one x

  -- What goes out against its negative.

  pub negative_sum_self : (x : K) → ⊖ x ⊕ x ≡ 𝟘
  negative_sum_self x = sum_comm (⊖ x) x ∙ sum_negative x

  pub sum_out_next : (x y : K) → x ⊕ (⊖ x ⊕ y) ≡ y
  sum_out_next x y = sym (sum_assoc x (⊖ x) y) ∙ ap (λ t. t ⊕ y) (sum_negative x) ∙ zero_sum y

  pub negative_out_next : (x y : K) → ⊖ x ⊕ (x ⊕ y) ≡ y
  negative_out_next x y = sym (sum_assoc (⊖ x) x y) ∙ ap (λ t. t ⊕ y) (negative_sum_self x) ∙ zero_sum y

  pub sum_cancel : (x y z : K) → x ⊕ y ≡ x ⊕ z → y ≡ z
  sum_cancel x y z e = sym (negative_out_next x y) ∙ ap (λ t. ⊖ x ⊕ t) e ∙ negative_out_next x z

  pub negative_unique : (x y : K) → x ⊕ y ≡ 𝟘 → y ≡ ⊖ x
  negative_unique x y e = sum_cancel x y (⊖ x) (e ∙ sym (sum_negative x))

  pub product_zero : (x : K) → x ⊙ 𝟘 ≡ 𝟘
  product_zero x = sum_cancel (x ⊙ 𝟘) (x ⊙ 𝟘) 𝟘 (sym (distrib x 𝟘 𝟘) ∙ ap (λ t. x ⊙ t) (sum_zero 𝟘) ∙ sym (sum_zero (x ⊙ 𝟘)))

  pub zero_product : (x : K) → 𝟘 ⊙ x ≡ 𝟘
  zero_product x = product_comm 𝟘 x ∙ product_zero x

  pub negative_zero : ⊖ 𝟘 ≡ 𝟘
  negative_zero = sym (negative_unique 𝟘 𝟘 (sum_zero 𝟘))

  pub negative_twice : (x : K) → ⊖ (⊖ x) ≡ x
  negative_twice x = sym (negative_unique (⊖ x) x (negative_sum_self x))

  pub negative_of_sum : (x y : K) → ⊖ (x ⊕ y) ≡ ⊖ x ⊕ ⊖ y
  negative_of_sum x y = sym (negative_unique (x ⊕ y) (⊖ x ⊕ ⊖ y) (simp (sum_assoc, sum_left_comm y (⊖ x), sum_out_next, sum_negative)))

  pub product_of_negative : (x y : K) → x ⊙ ⊖ y ≡ ⊖ (x ⊙ y)
  product_of_negative x y = negative_unique (x ⊙ y) (x ⊙ ⊖ y) (sym (distrib x y (⊖ y)) ∙ ap (λ t. x ⊙ t) (sum_negative y) ∙ product_zero x)

  pub negative_in_product : (x y : K) → ⊖ x ⊙ y ≡ ⊖ (x ⊙ y)
  negative_in_product x y = product_comm (⊖ x) y ∙ product_of_negative y x ∙ ap (λ t. ⊖ t) (product_comm y x)

  -- with one summand between
  pub sum_out_past : (x y : K) → x ⊕ (y ⊕ ⊖ x) ≡ y
  sum_out_past x y = rw (sum_comm y (⊖ x)) (sum_out_next x y)

  pub ruleset orders = (sum_assoc, sum_comm, sum_left_comm, product_assoc, product_comm, product_left_comm)

  pub ruleset units = (sum_zero, zero_sum, product_one, one_product, product_zero, zero_product, negative_zero)

  pub ruleset negatives = (
    negative_twice,
    negative_of_sum,
    product_of_negative,
    negative_in_product,
    sum_negative,
    negative_sum_self,
    sum_out_next,
    negative_out_next,
    sum_out_past,
  )

  pub ruleset ring = (units, negatives, distrib, distrib_right, orders)

  -- a zero factor
  pub zero_by_left : {a : K} (x : K) → a ≡ 𝟘 → a ⊙ x ≡ 𝟘
  zero_by_left x e = ap (λ t. t ⊙ x) e ∙ zero_product x

  pub zero_by_right : {a : K} (x : K) → a ≡ 𝟘 → x ⊙ a ≡ 𝟘
  zero_by_right x e = ap (λ t. x ⊙ t) e ∙ product_zero x

  -- Division.

  pub divide_back : (x y : K) → ¬ (y ≡ 𝟘) → (x ⊙ inverse y) ⊙ y ≡ x
  divide_back x y h = product_assoc x (inverse y) y ∙ ap (λ z. x ⊙ z) (product_comm (inverse y) y ∙ W.product_inverse y h) ∙ product_one x

  -- a product with a nonzero factor is zero by the other one
  pub nonzero_factor : (a x : K) → ¬ (a ≡ 𝟘) → a ⊙ x ≡ 𝟘 → x ≡ 𝟘
  nonzero_factor a x h e =
      sym (divide_back x a h) ∙ product_assoc x (inverse a) a ∙ product_left_comm x (inverse a) a
      ∙ zero_by_right (inverse a) (product_comm x a ∙ e)
