-- Remainders of sums and products.
use Rattle.std.specs.Prelude.{◌≡◌, ℕ, ◌+◌, ◌-◌, ◌*◌, ◌/◌, ◌%◌, ◌<◌, ◌≤◌}
use Rattle.std.proofs.Common.{sym, ap, ◌∙◌, mul_comm, mul-add, add-mul, mul-one, div-le_self, arith}
use Rattle.std.proofs.Math.Nat.{div-add-mod, mul-add-mod_self_left}

-- p = a q + r, so (p - q) a and r differ by a multiple of p
differ_by : (p a : ℕ) → 0 < a → (p - p / a) * a ≡ p * (a - 1) + p % a
differ_by p a positive =
    let q = p / a in
    let u = p - q in
    let b = a - 1 in
    let small : q ≤ p = div-le_self p a in
    let split : a * q + p % a ≡ p = div-add-mod p a in
    let whole : u + q ≡ p = omega arith in
    let parts : u * a + q * a ≡ p * a = sym (add-mul u q a) ∙ ap (λ x. x * a) whole in
    let turned : q * a ≡ a * q = mul_comm q a in
    let next : b + 1 ≡ a = omega arith in
    let more : p * a ≡ p * b + p = ap (λ x. p * x) (sym next) ∙ mul-add p b 1 ∙ ap (λ x. p * b + x) (mul-one p) in
    omega arith

pub descent : (p a : ℕ) → 0 < a → (p - p / a) * a % p ≡ p % a % p
descent p a positive = ap (λ x. x % p) (differ_by p a positive) ∙ mul-add-mod_self_left p (a - 1) (p % a)
