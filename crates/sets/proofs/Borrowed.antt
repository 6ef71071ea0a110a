-- A Vec after its first n elements were lent and came back as ys.
use Rattle.std.proofs.Common.{◌≡◌, ℕ, ◌-◌, ◌≤◌, List, length, take, drop, Vec, ap, ◌∙◌, arith, length-take}
use borrow.Rule.Slice.PartMut.{put_mid, same_len_mid}
use Rattle.std.specs.Vec.{with_items}
use Rattle.std.proofs.lemmas.List.{with_items_is}
use Rattle.std.proofs.lemmas.Slice.{take-put_mid}

module _ {X Z : Type 0} (v : Vec X Z) (xs ys : List X) (n : ℕ) (is : xs ≡ v.items) (long : length xs ≡ v.len) (same : length ys ≡ length (take (n - 0) (drop 0 xs))) (room : n ≤ length xs) where
  whole : length ys ≡ n
  whole = same ∙ length-take (n - 0) xs ∙ omega arith

  lent : (with_items v (put_mid 0 (n - 0) xs ys)).items ≡ put_mid 0 (n - 0) xs ys
  lent = with_items_is v (put_mid 0 (n - 0) xs ys) (same_len_mid 0 (n - 0) xs ys same ∙ long)

  -- what was lent
  pub front_lent : take (n - 0) (drop 0 xs) ≡ take n v.items
  front_lent = let none : n - 0 ≡ n = omega arith in ap (λ k. take k xs) none ∙ ap (take n) is

  -- what came back
  pub front_back : take n (with_items v (put_mid 0 (n - 0) xs ys)).items ≡ ys
  front_back = ap (take n) lent ∙ take-put_mid 0 (n - 0) xs ys n (omega (arith, whole)) (omega arith)
