-- What an accepted call tells of its runs.
use Rattle.std.proofs.Common.{◌≡◌, ℕ, ◌≤◌, Some, None, Option, arith}
use Rattle.std.proofs.lemmas.Bool.Decides.{nat_tests}
use Rattle.columns.specs.declared.refusal.Refusal.{Refusal}
use Rattle.sets.specs.Refused.{offer_refusal, determinant_refusal}

-- both runs are as long as there are unknowns
pub accepted_lengths : (e : Option Refusal) (m a b : ℕ) → None ≡ offer_refusal e m a b → (a ≡ m) × (b ≡ m)
accepted_lengths (Some e) m a b h = absurd cc
accepted_lengths None m a b h = (grind (arith, nat_tests), grind (arith, nat_tests))

-- no unknown is left over
pub accepted_full : (e : Option Refusal) (m held : ℕ) → None ≡ determinant_refusal e m held → m ≤ held
accepted_full (Some e) m held h = absurd cc
accepted_full None m held h = grind (arith, nat_tests)
