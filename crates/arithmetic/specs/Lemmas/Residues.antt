-- Residues: what the functions compute is what the field says.
use Rattle.std.specs.Prelude.{◌≡◌, ℕ, ◌+◌, ◌-◌, ◌*◌, ◌/◌, ◌%◌, ◌<◌}
use Rattle.std.proofs.Common.{sym, ap, ◌∙◌, mod-lt, mod-eq_of_lt, mul_comm, mul_assoc, mul-zero, arith, lit<}
use Rattle.std.proofs.Math.Nat.{mod-mod, add-mod}
use Rattle.arithmetic.specs.Fields.{Lawful}
use Rattle.arithmetic.specs.Elements.{residues, residue}
use Rattle.arithmetic.specs.declared.residue.Residue.{Residue}
use Rattle.arithmetic.specs.Lemmas.Laws.{inverse_unique}
use Rattle.std.proofs.lemmas.Nat.{mul-mod_first, mul-mod_second}
use Rattle.arithmetic.specs.Lemmas.Remainders.{descent}
use Rattle.arithmetic.specs.Lemmas.Primes.{prime_65479}
use Rattle.arithmetic.specs.Lemmas.Modulars.{below_path, modular_lawful}

abbrev P : ℕ
P = 65479

abbrev of : ℕ → Residue
of n = record { 0 = n }

pub residues_lawful : Lawful residues.ops
residues_lawful = modular_lawful P prime_65479 (lit< tt) (lit< tt)

pub sum_is : (a b : ℕ) → residue (of ((a + b) % P)) ≡ residues.ops.sum (residue (of a)) (residue (of b))
sum_is a b = below_path (mod-mod (a + b) P ∙ add-mod a b P)

pub product_is : (a b : ℕ) → residue (of (a * b % P)) ≡ residues.ops.product (residue (of a)) (residue (of b))
product_is a b = below_path (mod-mod (a * b) P ∙ sym (mul-mod_second (a % P) b P ∙ mul-mod_first a b P))

-- a turn of the descent: t times s is a, so t times P - P / a, times s, is P % a
pub turn : (s a t : ℕ) → 0 < a → a < P → t * s % P ≡ a → t * (P - P / a) % P * s % P ≡ P % a
turn s a t above below e =
    let u = P - P / a in
    let small : P % a < P = omega (arith, mod-lt P above) in
    mul-mod_first (t * u) s P
    ∙ ap (λ x. x % P) (ap (λ x. x * s) (mul_comm t u) ∙ mul_assoc u t s)
    ∙ sym (mul-mod_second u (t * s) P)
    ∙ ap (λ x. u * x % P) e
    ∙ descent P a above
    ∙ mod-eq_of_lt small

pub inverse_is : (s t : ℕ) → t * (s % P) % P ≡ 1 → residue (of t) ≡ residues.ops.inverse (residue (of s))
inverse_is s t e =
    inverse_unique residues.ops residues_lawful (residue (of s)) (residue (of t))
    (λ z.
    let w : s % P ≡ 0 = ap (λ x. x.0) z in
    let v : t * (s % P) ≡ 0 = ap (λ x. t * x) w ∙ mul-zero t in
    let y : ◌≡◌ {A = ℕ} 0 1 = sym (ap (λ x. x % P) v) ∙ e in
    omega arith)
    (below_path (mul-mod_second (s % P) t P ∙ ap (λ x. x % P) (mul_comm (s % P) t) ∙ e))

pub inverse_of_zero : (s : ℕ) → s % P ≡ 0 → residues.ops.zero ≡ residues.ops.inverse (residue (of s))
inverse_of_zero s z =
    let e : residue (of s) ≡ residues.ops.zero = below_path z in
    sym residues_lawful.inverse_zero ∙ ap residues.ops.inverse (sym e)
