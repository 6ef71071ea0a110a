-- Rows that change places.
use Rattle.std.proofs.Common.{◌≡◌, ℕ, zero, suc, ◌+◌, ◌<◌, ◌≤◌, sym, refl, ap, ◌∙◌, ap₂, arith}
use mathlib.Core.Path.{fun_ext}
use native.Mathlib.Decide.{ℕ_discrete}
use Rattle.arithmetic.specs.Fields.{Field, Lawful}
use Rattle.arithmetic.specs.Runs.{total, dot}
use Rattle.columns.specs.Swaps.{choose, put, exchange, swapped, unswapped}
use Rattle.columns.proofs.Rings.{sum_cancel}
use Rattle.columns.proofs.Places.{choose_yes, choose_no, put_at, put_off, put_is}
use Rattle.columns.proofs.Sums.{total_cong, total_put}

pub exchange_left : (p q i : ℕ) → i ≡ p → exchange p q i ≡ q
unfolding exchange
exchange_left p q i e = choose_yes (ℕ_discrete i p) q _ e

exchange_right : (p q i : ℕ) → ¬ (i ≡ p) → i ≡ q → exchange p q i ≡ p
unfolding exchange
exchange_right p q i h e = choose_no (ℕ_discrete i p) q _ h ∙ choose_yes (ℕ_discrete i q) p i e

pub exchange_else : (p q i : ℕ) → ¬ (i ≡ p) → ¬ (i ≡ q) → exchange p q i ≡ i
unfolding exchange
exchange_else p q i h k = choose_no (ℕ_discrete i p) q _ h ∙ choose_no (ℕ_discrete i q) p i k

-- whatever holds at q, at p and at i itself
pub exchange_cases : (P : ℕ → Type 0) (p q i : ℕ) → P p → P q → P i → P (exchange p q i)
unfolding exchange
exchange_cases P p q i at_p at-q at_i = go (ℕ_discrete i p) (ℕ_discrete i q)
  where
    go : (d : Dec (i ≡ p)) (e : Dec (i ≡ q)) → P (choose d q (choose e p i))
    go (yes d) e = at-q
    go (no d) (yes e) = at_p
    go (no d) (no e) = at_i

pub exchange_twice : (p q i : ℕ) → exchange p q (exchange p q i) ≡ i
exchange_twice p q i = go (ℕ_discrete i p) (ℕ_discrete i q) (ℕ_discrete q p)
  where
    go : Dec (i ≡ p) → Dec (i ≡ q) → Dec (q ≡ p) → exchange p q (exchange p q i) ≡ i
    go (yes e) d (yes f) = rw (exchange_left p q i e, exchange_left p q q f) (omega arith)
    go (yes e) d (no f) = rw (exchange_left p q i e, exchange_right p q q f refl) (omega arith)
    go (no e) (yes k) f = rw (exchange_right p q i e k, exchange_left p q p refl) (omega arith)
    go (no e) (no k) f = rw (exchange_else p q i e k) (exchange_else p q i e k)

-- a place with itself
pub exchange_none : (p i : ℕ) → exchange p (p + 0) i ≡ i
exchange_none p i = go (ℕ_discrete i p)
  where
    go : Dec (i ≡ p) → exchange p (p + 0) i ≡ i
    go (yes e) = exchange_left p (p + 0) i e ∙ omega arith
    go (no e) = exchange_else p (p + 0) i e (omega arith)

-- the values at p and q, each put in at the other's place
pub put_both : {X : Type 0} (p q : ℕ) (x : ℕ → X) → put p (x q) (put q (x p) x) ≡ (λ i. x (exchange p q i))
put_both p q x = put_is p (x q) (put q (x p) x) (λ i. x (exchange p q i)) (ap x (exchange_left p q p refl)) (λ i e. go i e (ℕ_discrete i q))
  where
    go : (i : ℕ) → ¬ (i ≡ p) → (d : Dec (i ≡ q)) → x (exchange p q i) ≡ choose d (x p) (x i)
    go i e (yes f) = ap x (exchange_right p q i e f)
    go i e (no f) = ap x (exchange_else p q i e f)

-- Exchanges of row k with row k + o k, for k below n.

module _ {X : Type 0} (o : ℕ → ℕ) where
  pub swaps_undone : (n : ℕ) (b : ℕ → X) → unswapped o n (swapped o n b) ≡ b
  swaps_undone zero b = refl
  swaps_undone (suc n) b = ap (unswapped o n) (fun_ext (λ i. ap (swapped o n b) (exchange_twice n (n + o n) i))) ∙ swaps_undone n b

  pub swaps_redone : (n : ℕ) (b : ℕ → X) → swapped o n (unswapped o n b) ≡ b
  swaps_redone zero b = refl
  swaps_redone (suc n) b = fun_ext (λ i.
      ap (λ (c : ℕ → X). c (exchange n (n + o n) i)) (swaps_redone n (λ i. b (exchange n (n + o n) i))) ∙ ap b (exchange_twice n (n + o n) i))

  -- only the offsets below n count
  pub swapped_alike : (p : ℕ → ℕ) (n : ℕ) (b : ℕ → X) → ((k : ℕ) → k < n → o k ≡ p k) → swapped o n b ≡ swapped p n b
  swapped_alike p zero b e = refl
  swapped_alike p (suc n) b e = fun_ext (λ i.
      ap₂ (λ (c : ℕ → X) t. c (exchange n (n + t) i)) (swapped_alike p n b (λ k l. e k (omega arith))) (e n (omega arith)))

  pub unswapped_alike : (p : ℕ → ℕ) (n : ℕ) (b : ℕ → X) → ((k : ℕ) → k < n → o k ≡ p k) → unswapped o n b ≡ unswapped p n b
  unswapped_alike p zero b e = refl
  unswapped_alike p (suc n) b e =
      unswapped_alike p n (λ i. b (exchange n (n + o n) i)) (λ k l. e k (omega arith))
      ∙ ap (λ t. unswapped p n (λ i. b (exchange n (n + t) i))) (e n (omega arith))

-- the row that comes to place i
abbrev pub from : (ℕ → ℕ) → ℕ → ℕ → ℕ
from o n = swapped o n (λ k. k)

-- the place that row i comes to
abbrev pub to : (ℕ → ℕ) → ℕ → ℕ → ℕ
to o n = unswapped o n (λ k. k)

pub swapped_from : {X : Type 0} (o : ℕ → ℕ) (n : ℕ) (b : ℕ → X) (i : ℕ) → swapped o n b i ≡ b (from o n i)
swapped_from o zero b i = refl
swapped_from o (suc n) b i = swapped_from o n b (exchange n (n + o n) i)

pub unswapped_to : {X : Type 0} (o : ℕ → ℕ) (n : ℕ) (b : ℕ → X) (i : ℕ) → unswapped o n b i ≡ b (to o n i)
unswapped_to o zero b i = refl
unswapped_to o (suc n) b i = unswapped_to o n (λ k. b (exchange n (n + o n) k)) i ∙ ap b (sym (unswapped_to o n (λ k. exchange n (n + o n) k) i))

module _ (o : ℕ → ℕ) (n i : ℕ) where
  pub from_to : from o n (to o n i) ≡ i
  from_to = sym (unswapped_to o n (from o n) i) ∙ ap (λ (c : ℕ → ℕ). c i) (swaps_undone o n (λ k. k))

  pub to_from : to o n (from o n i) ≡ i
  to_from = sym (swapped_from o n (to o n) i) ∙ ap (λ (c : ℕ → ℕ). c i) (swaps_redone o n (λ k. k))

  to_next : to o (suc n) i ≡ exchange n (n + o n) (to o n i)
  to_next = unswapped_to o n (λ k. exchange n (n + o n) k) i

-- Exchanges of rows below m.
module _ (o : ℕ → ℕ) (m : ℕ) where
  abbrev pub Inside : ℕ → Type 0
  Inside n = (k : ℕ) → k < n → k + o k < m

  pub inside_less : (n : ℕ) → Inside (suc n) → Inside n
  inside_less n h k l = h k (omega arith)

  exchange_below : (n i : ℕ) → Inside (suc n) → i < m → exchange n (n + o n) i < m
  exchange_below n i h l = let e = h n (omega arith) in exchange_cases (λ k. k < m) n (n + o n) i (omega arith) e l

  pub from_below : (n i : ℕ) → Inside n → i < m → from o n i < m
  from_below zero i h l = l
  from_below (suc n) i h l = from_below n (exchange n (n + o n) i) (inside_less n h) (exchange_below n i h l)

  pub to_below : (n i : ℕ) → Inside n → i < m → to o n i < m
  to_below zero i h l = l
  to_below (suc n) i h l = rw (to_next o n i) (exchange_below n (to o n i) h (to_below n i (inside_less n h) l))

  -- rows from m on stay
  pub to_above : (n i : ℕ) → Inside n → m ≤ i → to o n i ≡ i
  to_above zero i h l = refl
  to_above (suc n) i h l =
      to_next o n i ∙ ap (exchange n (n + o n)) (to_above n i (inside_less n h) l)
      ∙ (let e = h n (omega arith) in exchange_else n (n + o n) i (omega arith) (omega arith))

module _ {K : Type 0} (F : Field K) (W : Lawful F) where
  infixl 65 ◌⊕◌
  infixl 70 ◌⊙◌
  open F use {sum as ◌⊕◌, product as ◌⊙◌}

  -- an exchange leaves a sum alone
  total_exchange : (m p q : ℕ) (f : ℕ → K) → p < m → q < m → total F m (λ i. f (exchange p q i)) ≡ total F m f
  total_exchange m p q f l o = ap (total F m) (sym (put_both p q f)) ∙ sum_cancel F W (f p) _ _
      (ap (λ t. t ⊕ total F m (put p (f q) g)) (sym (at_p (ℕ_discrete p q))) ∙ total_put F W m p (f q) g l ∙ total_put F W m q (f p) f o)
    where
      g : ℕ → K
      g = put q (f p) f

      at_p : Dec (p ≡ q) → g p ≡ f p
      at_p (yes e) = ap g e ∙ put_at q (f p) f
      at_p (no e) = put_off q (f p) f p e

  -- undone on one side of a sum of products is done on the other
  pub dot_unswapped : (o : ℕ → ℕ) (m n : ℕ) (u b : ℕ → K) → Inside o m n → dot F m (unswapped o n u) b ≡ dot F m u (swapped o n b)
  dot_unswapped o m zero u b h = refl
  dot_unswapped o m (suc n) u b h =
      dot_unswapped o m n (λ i. u (exchange n (n + o n) i)) b (inside_less o m n h)
      ∙ total_cong F m _ _ (λ i l. ap (λ k. u (exchange n (n + o n) i) ⊙ swapped o n b k) (sym (exchange_twice n (n + o n) i)))
      ∙ (let e = h n (omega arith) in total_exchange m n (n + o n) (λ i. u i ⊙ swapped o n b (exchange n (n + o n) i)) (omega arith) e)
