-- What holds at every place below some number, and values put in at a place.
use Rattle.std.proofs.Common.{◌≡◌, ℕ, suc, ◌<◌, ◌≤◌, sym, refl, ap, ◌∙◌, subst, arith}
use mathlib.Core.Path.{fun_ext}
use native.Mathlib.Decide.{ℕ_discrete, dec_lt}
use Rattle.columns.specs.Swaps.{choose, put, joined}

-- below n, and at n
pub below_next : (P : ℕ → Type 0) (n : ℕ) → ((i : ℕ) → i < n → P i) → P n → (i : ℕ) → i < suc n → P i
below_next P n before at i l = go (ℕ_discrete i n)
  where
    go : Dec (i ≡ n) → P i
    go (yes e) = subst P (sym e) at
    go (no e) = before i (omega arith)

pub choose_yes : {A P : Type 0} (d : Dec P) (a b : A) → P → choose d a b ≡ a
choose_yes (yes h) a b e = refl
choose_yes (no h) a b e = absurd (h e)

pub choose_no : {A P : Type 0} (d : Dec P) (a b : A) → ¬ P → choose d a b ≡ b
choose_no (yes h) a b e = absurd (e h)
choose_no (no h) a b e = refl

pub put_at : {A : Type 0} (r : ℕ) (a : A) (x : ℕ → A) → put r a x r ≡ a
put_at r a x = choose_yes (ℕ_discrete r r) a (x r) refl

pub put_off : {A : Type 0} (r : ℕ) (a : A) (x : ℕ → A) (j : ℕ) → ¬ (j ≡ r) → put r a x j ≡ x j
put_off r a x j h = choose_no (ℕ_discrete j r) a (x j) h

-- what holds a at r, and x elsewhere
pub put_is : {A : Type 0} (r : ℕ) (a : A) (x y : ℕ → A) → y r ≡ a → ((j : ℕ) → ¬ (j ≡ r) → y j ≡ x j) → put r a x ≡ y
put_is r a x y here off = fun_ext (λ j. go j (ℕ_discrete j r))
  where
    go : (j : ℕ) (d : Dec (j ≡ r)) → choose d a (x j) ≡ y j
    go j (yes e) = sym (ap y e ∙ here)
    go j (no e) = sym (off j e)

pub put_same : {A : Type 0} (r : ℕ) (x : ℕ → A) → put r (x r) x ≡ x
put_same r x = put_is r (x r) x x refl (λ j e. refl)

pub put_comm : {A : Type 0} (p q : ℕ) (a b : A) (x : ℕ → A) → ¬ (p ≡ q) → put p a (put q b x) ≡ put q b (put p a x)
put_comm p q a b x h = put_is p a (put q b x) (put q b (put p a x))
    (put_off q b (put p a x) p h ∙ put_at p a x) (λ j e. ap (λ t. choose (ℕ_discrete j q) b t) (put_off p a x j e))

-- a function of what is put in
pub put_map : {A B : Type 0} (f : ℕ → A → B) (r : ℕ) (a : A) (x : ℕ → A) → put r (f r a) (λ j. f j (x j)) ≡ (λ j. f j (put r a x j))
put_map f r a x = put_is r (f r a) (λ j. f j (x j)) (λ j. f j (put r a x j)) (ap (f r) (put_at r a x)) (λ j e. ap (f j) (put_off r a x j e))

pub joined_low : {A : Type 0} (k : ℕ) (x y : ℕ → A) (j : ℕ) → j < k → joined k x y j ≡ x j
unfolding joined
joined_low k x y j l = choose_yes (dec_lt j k) (x j) (y j) l

pub joined_high : {A : Type 0} (k : ℕ) (x y : ℕ → A) (j : ℕ) → k ≤ j → joined k x y j ≡ y j
unfolding joined
joined_high k x y j l = choose_no (dec_lt j k) (x j) (y j) (λ q. omega arith)

pub joined_here : {A : Type 0} (k : ℕ) (x y : ℕ → A) → put k (y k) (joined k x y) ≡ joined k x y
joined_here k x y = put_is k (y k) (joined k x y) (joined k x y) (joined_high k x y k (omega arith)) (λ j e. refl)

pub joined_next : {A : Type 0} (k : ℕ) (x y : ℕ → A) → put k (x k) (joined k x y) ≡ joined (suc k) x y
joined_next k x y = put_is k (x k) (joined k x y) (joined (suc k) x y) (joined_low (suc k) x y k (omega arith)) (λ j e. go j e (dec_lt j k))
  where
    go : (j : ℕ) → ¬ (j ≡ k) → Dec (j < k) → joined (suc k) x y j ≡ joined k x y j
    go j e (yes l) = joined_low (suc k) x y j (omega arith) ∙ sym (joined_low k x y j l)
    go j e (no l) = joined_high (suc k) x y j (omega arith) ∙ sym (joined_high k x y j (omega arith))
