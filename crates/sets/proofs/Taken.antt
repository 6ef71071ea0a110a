-- A column's taking: rows exchanged column after column, and the rows after its pivot divided.
use Rattle.std.proofs.Common.{◌≡◌, ℕ, ◌+◌, ◌-◌, ◌<◌, ◌≤◌, sym, ap, ◌∙◌, add-one, arith}
use mathlib.Core.Path.{fun_ext}
use native.Mathlib.Decide.{dec_lt}
use Rattle.arithmetic.specs.Fields.{Field}
use Rattle.columns.specs.Swaps.{put, joined, exchange}
use Rattle.columns.proofs.Places.{choose_yes, choose_no, put_at, put_off, joined_high, joined_next}
use Rattle.sets.specs.Workings.{divided_below}
use Rattle.sets.proofs.Parts.{by_parts}

pub changed_none : {A : Type 0} (f M : ℕ → A) → M ≡ joined 0 f M
changed_none f M = sym (fun_ext (λ j. joined_high 0 f M j (omega arith)))

-- column j of memory N changed too, where those before it are
pub changed_next : {A : Type 0} (g : A → A) (M N : ℕ → A) (j : ℕ) → N ≡ joined j (λ k. g (M k)) M → put j (g (N j)) N ≡ joined (j + 1) (λ k. g (M k)) M
changed_next {A} g M N j e =
    let f : ℕ → A = λ k. g (M k) in
    ap (λ G. put j (g (G j)) G) e ∙ ap (λ x. put j (g x) (joined j f M)) (joined_high j f M j (omega arith))
    ∙ joined_next j f M ∙ ap (λ n. joined n f M) (sym (add-one j))

module _ {K : Type 0} (F : Field K) (r : ℕ) where
  infixl 70 ◌⊙◌
  open F use {product as ◌⊙◌, inverse}

  divided_at : (x : ℕ → K) (i : ℕ) → r < i → divided_below F r x i ≡ x i ⊙ inverse (x r)
  unfolding divided_below
  divided_at x i l = choose_yes (dec_lt r i) _ _ l

  divided_not : (x : ℕ → K) (i : ℕ) → i ≤ r → divided_below F r x i ≡ x i
  unfolding divided_below
  divided_not x i l = choose_no (dec_lt r i) _ _ (λ q. omega arith)

  -- rows up to row r stay, and the others are multiplied by its inverse
  pub divided_by_parts : (x y : ℕ → K) → ((i : ℕ) → i < r + 1 → y i ≡ x i) → ((k : ℕ) → y (r + 1 + k) ≡ x (r + 1 + k) ⊙ inverse (x r)) → y ≡ divided_below F r x
  divided_by_parts x y same divided = by_parts (r + 1) y (divided_below F r x)
      (λ i l. same i l ∙ sym (divided_not x i (omega arith)))
      (λ i l.
      let e : r + 1 + (i - (r + 1)) ≡ i = omega arith in
      ap y (sym e) ∙ divided (i - (r + 1)) ∙ ap (λ j. x j ⊙ inverse (x r)) e ∙ sym (divided_at x i (omega arith)))

-- M's rows r and r + q are exchanged in its columns up to column r, which is divided, and column p gets the target t in row r
module _ {K : Type 0} (F : Field K) (r q p : ℕ) (t : K) (M A B C : ℕ → ℕ → K) (exchanged : (j : ℕ) → j < r + 1 → A j ≡ (λ i. M j (exchange r (r + q) i)))
    (divides : B ≡ put r (divided_below F r (A r)) A) (past : r < p) (stores : C ≡ put p (put r t (B p)) B) where
  column : (G H : ℕ → ℕ → K) (j : ℕ) → G ≡ H → G j ≡ H j
  column G H j e = ap (λ (E : ℕ → ℕ → K). E j) e

  pub taken_held : (j : ℕ) → j < r → C j ≡ (λ i. M j (exchange r (r + q) i))
  taken_held j l = column _ _ j stores ∙ put_off p _ B j (omega arith) ∙ column _ _ j divides ∙ put_off r _ A j (omega arith) ∙ exchanged j (omega arith)

  pub taken_next : C r ≡ divided_below F r (λ i. M r (exchange r (r + q) i))
  taken_next =
      column _ _ r stores ∙ put_off p _ B r (omega arith) ∙ column _ _ r divides ∙ put_at r _ A ∙ ap (divided_below F r) (exchanged r (omega arith))

  pub taken_target : A p ≡ M p → C p ≡ put r t (M p)
  taken_target same = column _ _ p stores ∙ put_at p _ B ∙ ap (put r t) (column _ _ p divides ∙ put_off r _ A p (omega arith) ∙ same)

  pub taken_others : (j : ℕ) → A j ≡ M j → r < j → ¬ (j ≡ p) → C j ≡ M j
  taken_others j same l other = column _ _ j stores ∙ put_off p _ B j other ∙ column _ _ j divides ∙ put_off r _ A j (omega arith) ∙ same
