-- A loop that counts over two slices side by side: which pair comes at which turn, and how many turns there are.
use Rattle.std.proofs.Common.{◌≡◌, ℕ, ◌+◌, ◌<◌, min, List, [], ◌∷◌, length, get_or, map, Some, None, Option, refl, ap, ◌∙◌, subst, Bor, Iter, arith}
use Rattle.std.proofs.lemmas.List.{length-map}
use Rattle.std.specs.Iterator.{Yields}
use Rattle.std.specs.Iterator.Adapters.{enumerate_source, enumerate_count, enumerate_steps, zip_first, zip_second}
use Rattle.std.specs.Slice.Iter.{iter_rest}
use Rattle.std.specs.declared.iter.Enumerate.{Enumerate}
use Rattle.std.specs.declared.iter.Zip.{Zip}
use Rattle.std.proofs.iter.Yields.{fronts}
use Rattle.std.proofs.lemmas.Iterator.{zips}
use Rattle.std.proofs.lemmas.Slice.Zip.{zip_turn, zip_end}

abbrev Pairs : Type 0 → Type 0 → Type 0
Pairs A B = Enumerate (Zip (Iter A) (Iter B))

abbrev steps : {A B : Type 0} → Pairs A B → Option (ℕ × (Bor A × Bor B)) → Pairs A B → Type 0
steps {A} {B} = enumerate_steps {S = Zip (Iter A) (Iter B)} (zips fronts fronts)

module _ {A B : Type 0} where
  -- the count is that of the pairs, and the pairs are those of the zip
  counted : (xs : List (ℕ × (Bor A × Bor B))) (s t : Pairs A B) → Yields steps s xs t
      → (enumerate_count t ≡ enumerate_count s + length xs) × Yields (zips fronts fronts) (enumerate_source s) (map (λ p. p.1) xs) (enumerate_source t)
  counted [] s t e = (omega (arith, ap (λ u. enumerate_count u) e), ap (λ u. enumerate_source u) e)
  counted (x ∷ xs) s t (j, step, more) =
      let again = counted xs j t more in
      (omega (arith, again.0, step.2), (enumerate_source j, step.0, again.1))

  module _ (ks : List A) (vs : List B) (xs : List (ℕ × (Bor A × Bor B))) (s t u : Pairs A B) (first : iter_rest (zip_first (enumerate_source s)) ≡ ks)
      (second : iter_rest (zip_second (enumerate_source s)) ≡ vs) (start : enumerate_count s ≡ 0) (y : Yields steps s xs t) where
    pub counted_turn : (r : Option (ℕ × (Bor A × Bor B))) (p : ℕ × (Bor A × Bor B)) → r ≡ Some p → steps t r u
        → (p.0 ≡ length xs) × (length xs < length ks) × (length xs < length vs) × ((d : A) → p.1.0.now ≡ get_or ks (length xs) d) × ((d : B) → p.1.1.now ≡ get_or vs (length xs) d)
    counted_turn r p e gives =
        let step : steps t (Some p) u = subst (λ q. steps t q u) e gives in
        let so_far = counted xs s t y in
        let same : length (map (λ q. q.1) xs) ≡ length xs = simp length-map in
        let at = zip_turn ks vs (map (λ q. q.1) xs) (enumerate_source s) (enumerate_source t) (enumerate_source u) (Some p.1) first second so_far.1 p.1 refl step.0 in
        (omega (arith, step.1, so_far.0), omega (arith, at.0), omega (arith, at.1), λ d. at.2 d ∙ ap (λ n. get_or ks n d) same, λ d. at.3 d ∙ ap (λ n. get_or vs n d) same)

    pub counted_end : (r : Option (ℕ × (Bor A × Bor B))) → r ≡ None → steps t r u → length xs ≡ min (length ks) (length vs)
    counted_end r e gives =
        let step : steps t None u = subst (λ q. steps t q u) e gives in
        let so_far = counted xs s t y in
        let same : length xs ≡ length (map (λ q. q.1) xs) = simp length-map in
        same ∙ zip_end ks vs (map (λ q. q.1) xs) (enumerate_source s) (enumerate_source t) (enumerate_source u) None first second so_far.1 refl step.0
