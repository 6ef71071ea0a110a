-- What a look at a place of a run finds.
use Rattle.std.proofs.Common.{◌≡◌, ℕ, zero, suc, ◌<◌, ◌≤◌, List, [], ◌∷◌, length, get_or, sym, refl, subst, arith, Some, None, Option, MatchOption, IfSome}
use denote.Bor.{Bor}
use Rattle.std.specs.Option.{option_copied}

-- none past the end, and else the element there
pub copied_found : {X : Type 0} (xs : List X) (k : ℕ) {P : Type 0} {R : X → Type 0} (Q : Bor X → Type 0) (o : Option (Bor X)) → MatchOption o (length xs ≤ k) (λ x. (k < length xs) × Q x)
    → IfSome o (λ x. x.now ≡ get_or xs k x.now) → (length xs ≤ k → P) → ((x : X) → k < length xs → x ≡ get_or xs k x → R x) → MatchOption (option_copied o) P R
copied_found xs k Q (Some x) found at none some = some x.now found.0 at
copied_found xs k Q None found at none some = none found

-- so too of what is the copy of such a look
pub found_as : {X : Type 0} (P : Type 0) (R : X → Type 0) (v : Option X) (o : Option (Bor X)) → v ≡ option_copied o → MatchOption (option_copied o) P R → MatchOption v P R
found_as P R v o e m = subst (λ u. MatchOption u P R) (sym e) m

-- within a run, what stands for a missing element does not count
pub same_default : {X : Type 0} (xs : List X) (k : ℕ) (d e : X) → k < length xs → get_or xs k d ≡ get_or xs k e
same_default [] k d e l = absurd (omega arith)
same_default (x ∷ xs) zero d e l = refl
same_default (x ∷ xs) (suc k) d e l = same_default xs k d e (omega arith)
