-- The numbers below p, with sums and products modulo p.
use Rattle.std.specs.Prelude.{ℕ, zero, suc, ◌+◌, ◌-◌, ◌*◌, ◌/◌, ◌%◌, ◌<◌, cond, pos, nat_le, unsigned_abs}
use Rattle.std.proofs.Common.{mod-lt}
use Rattle.std.specs.Int.{int_rem_euclid}
use Rattle.arithmetic.specs.Fields.{Field}

abbrev pub Below : ℕ → Type 0
Below p = (n : ℕ) × (n < p)

-- the inverse of a modulo a prime p, in at most `steps` steps: from p = a q + r it follows that r and (p - q) a differ by a
-- multiple of p, so the inverse of a is that of r times p - q; 0 and 1 are their own
unfoldable pub inverse_of : (p steps a : ℕ) → ℕ
inverse_of p zero a = 0
inverse_of p (suc steps) a = cond (nat_le a 1) a (inverse_of p steps (p % a) * (p - p / a) % p)

module _ (p : ℕ) (positive : 0 < p) where
  abbrev pub reduced : ℕ → Below p
  reduced n = (n % p, mod-lt n positive)

  abbrev pub modular : Field (Below p)
  modular = record {
    zero = reduced 0;
    one = reduced 1;
    sum = λ x y. reduced (x.0 + y.0);
    negative = λ x. reduced (p - x.0);
    product = λ x y. reduced (x.0 * y.0);
    inverse = λ x. reduced (inverse_of p x.0 x.0);
    bring = λ n. reduced (unsigned_abs (int_rem_euclid n (pos p)));
    code = λ x. x.0;
    order = p;
  }
