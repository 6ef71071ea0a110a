-- Primes, by trial division.
use Rattle.std.specs.Prelude.{◌≡◌, ℕ, zero, suc, ◌+◌, ◌*◌, ◌/◌, ◌%◌, ◌<◌, ◌≤◌, Bool, true, false, ◌≢◌, refl}
use Rattle.std.proofs.Common.{sym, ap, ◌∙◌, mul-le-mul, mul-one, mul-zero, arith, lit<}
use Rattle.std.proofs.Math.Nat.{div-add-mod, mul-mod_left}
use Rattle.std.proofs.Math.Decide.{ℕ_discrete, dec_le}

pub record Prime (p : ℕ) : Type 0 where
  pub above : 1 < p
  pub indivisible : (a : ℕ) → 1 < a → a < p → 0 < p % a

-- b, unless k is 0
passes : ℕ → Bool → Bool
passes zero b = false
passes (suc k) b = b

passes_holds : (k : ℕ) (b : Bool) → passes k b ≡ true → (k ≢ 0) × (b ≡ true)
unfolding passes
passes_holds zero b t = absurd (let z : ◌≡◌ {A = ℕ} 0 1 = cc in omega arith)
passes_holds (suc k) b t = ((λ e. omega arith), t)

-- whether p leaves a remainder at each of 2, .., n + 1
trial : ℕ → ℕ → Bool
unfolding passes
trial p zero = true
trial p (suc n) = passes (p % suc (suc n)) (trial p n)

trial_holds : (p n : ℕ) → trial p n ≡ true → (d : ℕ) → 1 < d → d ≤ n + 1 → p % d ≢ 0
unfolding trial
trial_holds p zero t d h k e = omega arith
trial_holds p (suc n) t d h k e =
    let both = passes_holds (p % suc (suc n)) (trial p n) t in
    elim (ℕ_discrete d (suc (suc n))) [
      | yes same ↦ both.0 (ap (λ x. p % x) (sym same) ∙ e)
      | no other ↦ trial_holds p n both.1 d h (omega arith) e
    ]

-- of two factors of p one is below n + 2 wherever p is below its square
prime_by_trial : (p n : ℕ) → 1 < p → p < (n + 2) * (n + 2) → trial p n ≡ true → Prime p
prime_by_trial p n above large t = record {
  above = above;
  indivisible = λ a big below. elim (ℕ_discrete (p % a) 0) [ yes e ↦ absurd (no_divisor a big below e) | no e ↦ omega arith ];
}
  where
    no_divisor : (a : ℕ) → 1 < a → a < p → p % a ≢ 0
    no_divisor a big below e =
        let q = p / a in
        let split : a * q ≡ p = omega (arith, div-add-mod p a) in
        elim (dec_le a (n + 1)) [
          | yes small ↦ trial_holds p n t a big small e
          | no large-a ↦
              elim (dec_le q (n + 1)) [
                | yes small-q ↦
                    let q_zero : q ≡ 0 → ⊥ = λ z. let w : a * q ≡ 0 = ap (λ x. a * x) z ∙ mul-zero a in omega arith in
                    let q_one : q ≡ 1 → ⊥ = λ z. let w : a * q ≡ a = ap (λ x. a * x) z ∙ mul-one a in omega arith in
                    trial_holds p n t q (omega arith) small-q (ap (λ x. x % q) (sym split) ∙ mul-mod_left a q)
                | no large_q ↦ let w : (n + 2) * (n + 2) ≤ a * q = mul-le-mul (omega arith) (omega arith) in omega arith
              ]
        ]

pub prime_2 : Prime 2
unfolding trial
prime_2 = prime_by_trial 2 0 (lit< tt) (lit< tt) refl

pub prime_65479 : Prime 65479
unfolding trial
prime_65479 = prime_by_trial 65479 254 (lit< tt) (lit< tt) refl
