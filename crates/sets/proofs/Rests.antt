-- The rest of a worked column, and the unknowns in its rows, as lists.
use Rattle.std.proofs.Common.{◌≡◌, ℕ, zero, suc, ◌+◌, ◌-◌, ◌<◌, ◌≤◌, List, [], ◌∷◌, length, get_or, take, drop, Some, Option, sym, refl, ap, ◌∙◌, ap₂, arith, length-drop, length-take}
use Rattle.std.proofs.lemmas.List.{get_or-take, get_or-drop}
use Rattle.arithmetic.specs.Fields.{Field}
use Rattle.columns.specs.Picks.{Pick}
use Rattle.columns.specs.Swaps.{swapped}
use Rattle.columns.specs.Factors.{permuted}
use Rattle.columns.specs.Panels.{places}
use Rattle.columns.proofs.Panels.{places_at}
use Rattle.columns.proofs.Swaps.{from, swapped_from, from_below}
use Rattle.sets.specs.States.{State, listed, picked, codes, unknowns_in_rows}

-- a list that holds f 0, .., f (n - 1)
pub listed_is : (n : ℕ) (f : ℕ → ℕ) (xs : List ℕ) → length xs ≡ n → ((k : ℕ) → k < n → get_or xs k 0 ≡ f k) → xs ≡ listed n f
unfolding listed
listed_is zero f [] l e = refl
listed_is zero f (x ∷ xs) l e = absurd (omega arith)
listed_is (suc n) f [] l e = absurd (omega arith)
listed_is (suc n) f (x ∷ xs) l e = ap₂ ◌∷◌ (e 0 (omega arith)) (listed_is n (λ i. f (suc i)) xs (omega arith) (λ k q. e (suc k) (omega arith)))

-- n elements of a list from place a on
part_listed : (a n : ℕ) (f : ℕ → ℕ) (xs : List ℕ) → a + n ≤ length xs → ((k : ℕ) → k < n → get_or xs (a + k) 0 ≡ f k) → take n (drop a xs) ≡ listed n f
part_listed a n f xs room e =
    listed_is n f (take n (drop a xs)) (omega (arith, length-take n (drop a xs), length-drop a xs))
    (λ k l. get_or-take n (drop a xs) k 0 l ∙ get_or-drop a xs k 0 ∙ e k l)

some_same : (a b : ℕ) → ◌≡◌ {A = Option ℕ} (Some a) (Some b) → a ≡ b
some_same a b e = cc

-- the numbers 0 to 95, swapped
pub numbers_swapped : (o : ℕ → ℕ) (r : ℕ) (xs ys : List ℕ) → ((k : ℕ) → k < r → k + o k < 96) → length xs ≡ 96 → length ys ≡ length xs → ((k : ℕ) → k < 96 → get_or xs k 0 ≡ k)
    → places ys ≡ swapped o r (places xs) → (k : ℕ) → k < 96 → get_or ys k 0 ≡ swapped o r (λ i. i) k
numbers_swapped o r xs ys inside all same is e k l =
    let below : from o r k < 96 = from_below o 96 r k inside l in
    some_same (get_or ys k 0) (swapped o r (λ i. i) k)
    (sym (places_at ys k 0 (omega arith)) ∙ ap (λ (p : ℕ → Option ℕ). p k) e ∙ swapped_from o r (places xs) k
    ∙ places_at xs (from o r k) 0 (omega arith) ∙ ap Some (is (from o r k) below ∙ sym (swapped_from o r (λ i. i) k)))

-- what the chooser is asked, from the code's lists
pub picked_from : {K : Type 0} (F : Field K) (s : State K) (w : ℕ → K) (pick : Pick) (n h : ℕ) (cs us : List ℕ) → h ≡ s.factors.height → n ≡ h - s.factors.rank → length cs ≡ 96 → length us ≡ 96 → s.factors.rank ≤ h → h ≤ 96
    → ((k : ℕ) → k < n → get_or cs k 0 ≡ F.code (w (s.factors.rank + k))) → ((k : ℕ) → k < 96 → get_or us k 0 ≡ permuted s.factors (λ i. i) k)
    → pick (take n cs) (take (h - s.factors.rank) (drop s.factors.rank us)) ≡ picked F pick s w
unfolding picked codes unknowns_in_rows
picked_from F s w pick n h cs us high counted lc lu le small codes-are unknowns-are =
    let r = s.factors.rank in
    let m = s.factors.height in
    let all : h - r ≡ m - r = omega arith in
    ap₂ pick
    (listed_is (m - r) _ (take n cs) (omega (arith, length-take n cs)) (λ k l. get_or-take n cs k 0 (omega arith) ∙ codes-are k (omega arith)))
    (ap (λ k. take k (drop r us)) all ∙ part_listed r (m - r) _ us (omega arith) (λ k l. unknowns-are (r + k) (omega arith)))
