-- A value put in before others, and the numbers without one.
use Rattle.std.proofs.Common.{◌≡◌, ℕ, zero, suc, ◌<◌, ◌≤◌, sym, refl, ap, ◌∙◌, ap₂, arith}
use mathlib.Core.Path.{fun_ext}
use Rattle.arithmetic.specs.Fields.{Field, Lawful}
use Rattle.arithmetic.specs.Runs.{total}
use Rattle.columns.specs.Swaps.{put}
use Rattle.columns.specs.Determinants.{skip}
use Rattle.columns.proofs.Rings.{sum_left_comm}
use Rattle.columns.proofs.Places.{put_at, put_off}
use Rattle.columns.proofs.Sums.{total_first}

pub skip_below : (n p j : ℕ) → j < n → skip p j < suc n
skip_below n zero j l = omega arith
skip_below n (suc p) zero l = omega arith
skip_below zero (suc p) (suc j) l = absurd (omega arith)
skip_below (suc n) (suc p) (suc j) l = let h : skip p j < suc n = skip_below n p j (omega arith) in omega arith

skip_not : (p j : ℕ) → ¬ (skip p j ≡ p)
skip_not zero j e = omega arith
skip_not (suc p) zero e = omega arith
skip_not (suc p) (suc j) e = skip_not p j (omega arith)

pub skip_self : (p : ℕ) → skip p p ≡ suc p
skip_self zero = refl
skip_self (suc p) = ap suc (skip_self p)

-- x 0, .., x (p - 1), a, x p, ..
abbrev pub insert : {A : Type 0} → ℕ → A → (ℕ → A) → ℕ → A
insert zero a x zero = a
insert zero a x (suc k) = x k
insert (suc p) a x zero = x zero
insert (suc p) a x (suc k) = insert p a (λ j. x (suc j)) k

pub insert_at : {A : Type 0} (p : ℕ) (a : A) (x : ℕ → A) → insert p a x p ≡ a
insert_at zero a x = refl
insert_at (suc p) a x = insert_at p a (λ j. x (suc j))

pub insert_skip : {A : Type 0} (p : ℕ) (a : A) (x : ℕ → A) (j : ℕ) → insert p a x (skip p j) ≡ x j
insert_skip zero a x j = refl
insert_skip (suc p) a x zero = refl
insert_skip (suc p) a x (suc j) = insert_skip p a (λ k. x (suc k)) j

pub insert_self : {A : Type 0} (p : ℕ) (x : ℕ → A) (l : ℕ) → insert p (x p) (λ j. x (skip p j)) l ≡ x l
insert_self zero x zero = refl
insert_self zero x (suc l) = refl
insert_self (suc p) x zero = refl
insert_self (suc p) x (suc l) = insert_self p (λ j. x (suc j)) l

pub insert_map : {A B : Type 0} (f : A → B) (p : ℕ) (a : A) (x : ℕ → A) (l : ℕ) → f (insert p a x l) ≡ insert p (f a) (λ j. f (x j)) l
insert_map f zero a x zero = refl
insert_map f zero a x (suc l) = refl
insert_map f (suc p) a x zero = refl
insert_map f (suc p) a x (suc l) = insert_map f p a (λ j. x (suc j)) l

pub put_insert : {A : Type 0} (p : ℕ) (a : A) (x : ℕ → A) → put p a x ≡ insert p a (λ j. x (skip p j))
put_insert p a x =
    sym (fun_ext (insert_self p (put p a x)))
    ∙ ap₂ (insert p) (put_at p a x) (fun_ext (λ j. put_off p a x (skip p j) (skip_not p j)))

-- where p comes to stand without the number skip p k
abbrev pub drop : ℕ → ℕ → ℕ
drop zero k = zero
drop (suc p) zero = p
drop (suc p) (suc k) = suc (drop p k)

pub drop_below : (n p k : ℕ) → p ≤ suc n → k < suc n → drop p k ≤ n
drop_below n zero k l q = omega arith
drop_below n (suc p) zero l q = omega arith
drop_below zero (suc p) (suc k) l q = absurd (omega arith)
drop_below (suc n) (suc p) (suc k) l q = let h : drop p k ≤ n = drop_below n p k (omega arith) (omega arith) in omega arith

pub drop_self : (p : ℕ) → drop p p ≡ p
drop_self zero = refl
drop_self (suc p) = ap suc (drop_self p)

pub drop_skip : (p l : ℕ) → drop p (skip p l) ≡ drop p l
drop_skip zero l = refl
drop_skip (suc p) zero = refl
drop_skip (suc p) (suc l) = ap suc (drop_skip p l)

-- put in at p, then left out another
pub insert_drop : {A : Type 0} (p k : ℕ) (a : A) (x : ℕ → A) (l : ℕ) → insert p a x (skip (skip p k) l) ≡ insert (drop p k) a (λ j. x (skip k j)) l
insert_drop zero k a x zero = refl
insert_drop zero k a x (suc l) = refl
insert_drop (suc p) zero a x l = refl
insert_drop (suc p) (suc k) a x zero = refl
insert_drop (suc p) (suc k) a x (suc l) = insert_drop p k a (λ j. x (suc j)) l

module _ {K : Type 0} (F : Field K) (W : Lawful F) where
  infixl 65 ◌⊕◌
  open F use {sum as ◌⊕◌}

  -- one summand before all others
  pub total_skip : (n p : ℕ) (f : ℕ → K) → p ≤ n → total F (suc n) f ≡ f p ⊕ total F n (λ j. f (skip p j))
  total_skip n zero f l = total_first F W n f
  total_skip zero (suc p) f l = absurd (omega arith)
  total_skip (suc n) (suc p) f l =
      total_first F W (suc n) f
      ∙ ap (λ t. f 0 ⊕ t) (total_skip n p (λ j. f (suc j)) (omega arith))
      ∙ sum_left_comm F W (f 0) (f (suc p)) (total F n (λ j. f (suc (skip p j))))
      ∙ ap (λ t. f (suc p) ⊕ t) (sym (total_first F W n (λ j. f (skip (suc p) j))))
