-- The numbers below a prime form a field.
use Rattle.std.specs.Prelude.{◌≡◌, ℕ, zero, suc, ◌+◌, ◌-◌, ◌*◌, ◌/◌, ◌%◌, ◌^◌, ◌<◌, ◌≤◌, Bool, true, false, cond, ℤ, pos, negsuc, ◌+ℤ◌, nat_le, unsigned_abs}
use Rattle.std.proofs.Math.Path.{refl, sym, ap}
use Rattle.std.proofs.Common.{◌∙◌, mod-eq_of_lt, mul_comm, mul_assoc, mul-add, mul-one, arith, leb-true, leb-false}
use mathlib.Core.HLevel.{Σ_prop_path}
use Rattle.std.proofs.Math.Nat.{mod-lt, mod-mod, mod-add-mod, add-mod-mod, mod_self, add-mod, suc-mod, zero-mod}
use Rattle.std.proofs.Math.Bridge.{le_prop}
use Rattle.std.proofs.Math.Decide.{dec_lt}
use Rattle.std.proofs.Math.IntN.{+ℤ_one}
use Rattle.std.specs.Int.{int_rem_euclid}
use Rattle.arithmetic.specs.Fields.{Lawful}
use Rattle.arithmetic.specs.Modular.{Below, inverse_of, modular}
use Rattle.std.proofs.lemmas.Nat.{mul-mod_first, mul-mod_second}
use Rattle.arithmetic.specs.Lemmas.Remainders.{descent}
use Rattle.arithmetic.specs.Lemmas.Primes.{Prime}

-- values below p are equal where their numbers are
pub below_path : {p : ℕ} {x y : Below p} → x.0 ≡ y.0 → x ≡ y
below_path e = Σ_prop_path (λ n. le_prop) e

descend : (p a t : ℕ) → 0 < a → t * (p % a) % p ≡ 1 → t * (p - p / a) % p * a % p ≡ 1
descend p a t positive e =
    mul-mod_first (t * (p - p / a)) a p
    ∙ ap (λ x. x % p) (mul_assoc t (p - p / a) a)
    ∙ sym (mul-mod_second t ((p - p / a) * a) p)
    ∙ ap (λ x. t * x % p) (descent p a positive)
    ∙ mul-mod_second t (p % a) p
    ∙ e

module _ (p : ℕ) (prime : Prime p) where
  positive : 0 < p
  positive = omega (arith, prime.above)

  one_stays : 1 % p ≡ 1
  one_stays = mod-eq_of_lt prime.above

  -- a steps suffice
  inverse_of_right : (steps a : ℕ) → a ≤ steps → 0 < a → a < p → inverse_of p steps a * a % p ≡ 1
  unfolding inverse_of
  inverse_of_right zero a h above below = absurd (omega arith)
  inverse_of_right (suc steps) a h above below =
      by_size (nat_le a 1) refl (inverse_of_right steps (p % a))
    where
      less : p % a < a
      less = mod-lt p above

      by_size : (b : Bool) → nat_le a 1 ≡ b → (p % a ≤ steps → 0 < p % a → p % a < p → inverse_of p steps (p % a) * (p % a) % p ≡ 1)
          → cond b a (inverse_of p steps (p % a) * (p - p / a) % p) * a % p ≡ 1
      by_size true small again =
          let one : a ≡ 1 = omega (arith, leb-true a 1 small) in
          ap (λ x. x * x % p) one ∙ one_stays
      by_size false large again =
          let big : 1 < a = leb-false a 1 large in
          descend p a (inverse_of p steps (p % a)) above (again (omega arith) (prime.indivisible a big below) (omega arith))

  -- counting up by one, below zero too
  next_up : (n : ℕ) → (n + 1) % p % p ≡ (n % p % p + 1 % p) % p
  next_up n = mod-mod (n + 1) p ∙ add-mod n 1 p ∙ ap (λ x. (x + 1 % p) % p) (sym (mod-mod n p))

  next_below : (n : ℕ) → (p - 1 - n % p) % p ≡ ((p - 1 - suc n % p) % p + 1 % p) % p
  next_below n = by_room (dec_lt (suc r) p) ∙ add-mod (p - 1 - suc n % p) 1 p
    where
      r : ℕ
      r = n % p

      by_room : Dec (suc r < p) → (p - 1 - n % p) % p ≡ (p - 1 - suc n % p + 1) % p
      by_room (yes room) = ap (λ x. x % p) (omega (arith, suc-mod n p ∙ mod-eq_of_lt room))
      by_room (no none) =
          let full : suc r ≡ p = omega (arith, mod-lt n positive) in
          let over : suc n % p ≡ 0 = suc-mod n p ∙ ap (λ x. x % p) full ∙ mod_self p in
          let all : p - 1 - suc n % p + 1 ≡ p = omega arith in
          let none_left : p - 1 - n % p ≡ 0 = omega arith in
          ap (λ x. x % p) none_left ∙ zero-mod p ∙ sym (ap (λ x. x % p) all ∙ mod_self p)

  next : (n : ℤ) → unsigned_abs (int_rem_euclid (n +ℤ pos 1) (pos p)) % p ≡ (unsigned_abs (int_rem_euclid n (pos p)) % p + 1 % p) % p
  next (pos n) = next_up n
  next (negsuc zero) =
      let all : p - 1 - 0 % p + 1 ≡ p = omega (arith, zero-mod p, positive) in
      mod-mod 0 p ∙ zero-mod p ∙ sym (mod_self p) ∙ ap (λ x. x % p) (sym all) ∙ add-mod (p - 1 - 0 % p) 1 p
  next (negsuc (suc n)) = ap (λ z. unsigned_abs (int_rem_euclid z (pos p)) % p) (+ℤ_one (negsuc (suc n))) ∙ next_below n

  pub modular_lawful : p < 2 ^ 32 → (room : 0 < p) → Lawful (modular p room)
  modular_lawful fits room = record {
    sum_assoc = λ x y z. below_path (mod-add-mod (x.0 + y.0) p z.0 ∙ ap (λ n. n % p) (omega arith) ∙ sym (add-mod-mod x.0 (y.0 + z.0) p));
    sum_comm = λ x y. below_path (ap (λ n. n % p) (omega arith));
    sum_zero = λ x. below_path (add-mod-mod x.0 0 p ∙ ap (λ n. n % p) (omega arith) ∙ mod-eq_of_lt x.1);
    sum_negative = λ x. below_path (add-mod-mod x.0 (p - x.0) p ∙ ap (λ n. n % p) (omega (arith, x.1)) ∙ mod_self p ∙ sym (zero-mod p));
    product_assoc = λ x y z. below_path (mul-mod_first (x.0 * y.0) z.0 p ∙ ap (λ n. n % p) (mul_assoc x.0 y.0 z.0) ∙ sym (mul-mod_second x.0 (y.0 * z.0) p));
    product_comm = λ x y. below_path (ap (λ n. n % p) (mul_comm x.0 y.0));
    product_one = λ x. below_path (mul-mod_second x.0 1 p ∙ ap (λ n. n % p) (mul-one x.0) ∙ mod-eq_of_lt x.1);
    distrib = λ x y z. below_path (mul-mod_second x.0 (y.0 + z.0) p ∙ ap (λ n. n % p) (mul-add x.0 y.0 z.0) ∙ add-mod (x.0 * y.0) (x.0 * z.0) p);
    product_inverse = λ x n. below_path (right_inverse x (λ z. n (below_path (z ∙ sym (zero-mod p)))));
    inverse_zero = below_path (unfold inverse_of in ap (λ z. inverse_of p z z % p) (zero-mod p));
    apart = λ e. let z : 0 % p ≡ 1 % p = ap (λ x. x.0) e in omega (arith, zero-mod p, one_stays);
    code_same = λ x y e. below_path e;
    code_zero = zero-mod p;
    code_below = λ x. x.1;
    order_below = fits;
    bring_zero = below_path (mod-mod 0 p);
    bring_next = λ n. below_path (next n);
  }
    where
      right_inverse : (x : Below p) → ¬ (x.0 ≡ 0) → x.0 * (inverse_of p x.0 x.0 % p) % p ≡ 1 % p
      right_inverse x n =
          mul-mod_second x.0 (inverse_of p x.0 x.0) p
          ∙ ap (λ y. y % p) (mul_comm x.0 _)
          ∙ inverse_of_right x.0 x.0 (omega arith) (omega arith) x.1
          ∙ sym one_stays
