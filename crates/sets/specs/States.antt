-- A set's state, and the formula of each call.
use Rattle.std.specs.Prelude.{ℕ, zero, suc, ◌+◌, ◌-◌, List, [], ◌∷◌, Some, None, Option}
use Rattle.std.proofs.Math.Decide.{ℕ_discrete}
use Rattle.arithmetic.specs.Fields.{Field}
use Rattle.arithmetic.specs.Runs.{dot}
use Rattle.columns.specs.Swaps.{choose, put}
use Rattle.columns.specs.Picks.{Pick}
use Rattle.columns.specs.Factors.{Packed, permuted, worked, combination, extended, advanced, lead, motion, assignment}

-- the factors of the columns held, and their targets
pub record State (K : Type 0) : Type 0 where
  pub factors : Packed K
  pub target : ℕ → K

-- a column put forward, and its target
abbrev pub Offer : Type 0 → Type 0
Offer K = (ℕ → K) × K

-- of an offer: taken at a place; or, by the combination shown, redundant, or a clash with the combination's value
pub data Verdict (K : Type 0) : Type 0 where
  taken : ℕ → Verdict K
  redundant : (ℕ → K) → Verdict K
  clash : K → (ℕ → K) → Verdict K

-- its number
abbrev pub verdict_number : {K : Type 0} → Verdict K → ℕ
verdict_number (taken p) = 0
verdict_number (redundant x) = 1
verdict_number (clash v x) = 2

-- to an enquiry: fixed at a value, by the combination shown, or free, by the motion shown
pub data Reply (K : Type 0) : Type 0 where
  fixed : K → (ℕ → K) → Reply K
  free : (ℕ → K) → Reply K

-- f 0, .., f (n - 1)
unfoldable pub listed : {X : Type 0} → ℕ → (ℕ → X) → List X
listed zero f = []
listed (suc n) f = f 0 ∷ listed n (λ i. f (suc i))

-- one verdict, then the verdicts from the state after it on
unfoldable pub first_then : {V S : Type 0} → V × S → (S → List V × S) → List V × S
first_then (v, s) rest = let e = rest s in (v ∷ e.0, e.1)

module _ {K : Type 0} (F : Field K) where
  open F use {zero as 𝟘, code}

  -- nothing held yet, of m unknowns
  abbrev pub made : ℕ → State K
  made m = record { factors = record { height = m; rank = 0; entry = λ j i. 𝟘; offset = λ k. 0 }; target = λ j. 𝟘 }

  -- From here on w is a column worked by the factors, and its rest is its rows from the rank on.

  -- what goes to the chooser: the codes of the rest
  unfoldable pub codes : State K → (ℕ → K) → List ℕ
  codes s w = listed (s.factors.height - s.factors.rank) (λ i. code (w (s.factors.rank + i)))

  -- and which unknown stands in each of its rows
  unfoldable pub unknowns_in_rows : State K → List ℕ
  unknowns_in_rows s = listed (s.factors.height - s.factors.rank) (λ i. permuted s.factors (λ k. k) (s.factors.rank + i))

  -- the place that the chooser picks in the rest
  unfoldable pub picked : Pick → State K → (ℕ → K) → Option ℕ
  picked pick s w = pick (codes s w) (unknowns_in_rows s)

  -- a combination's value: the sum of the targets, each times its coefficient
  unfoldable pub value_of : State K → (ℕ → K) → K
  value_of s x = dot F s.factors.rank s.target x

  -- the verdict on a column that the combination x gives: by its value, redundant or a clash
  unfoldable pub repeated : State K → (ℕ → K) → K → Verdict K
  repeated s x t = choose (ℕ_discrete (code (value_of s x)) (code t)) (redundant x) (clash (value_of s x) x)

  -- the state after w is taken at target t with pick q
  abbrev pub taken_at : State K → (ℕ → K) → K → ℕ → State K
  taken_at s w t q = record { factors = extended F s.factors w q; target = put s.factors.rank t s.target }

  -- by what the chooser said: a column with nothing to pick is repeated, and one with a place to pick is taken
  unfoldable pub decided : State K → (ℕ → K) → K → Option ℕ → Verdict K × State K
  decided s w t None = (repeated s (combination F s.factors w) t, s)
  decided s w t (Some q) = (taken s.factors.rank, taken_at s w t q)

  -- the verdict on the column b at target t, and the state after it
  unfoldable pub offered : Pick → State K → (ℕ → K) → K → Verdict K × State K
  offered pick s b t = let w = worked F s.factors b in decided s w t (picked pick s w)

  -- offers one after another: their verdicts, and the state after them
  unfoldable pub in_turn : Pick → State K → List (Offer K) → List (Verdict K) × State K
  in_turn pick s [] = ([], s)
  in_turn pick s (o ∷ os) = first_then (offered pick s o.0 o.1) (λ u. in_turn pick u os)

  -- what the chooser's word makes of another column x worked before: a taking changes it by one exchange and one step
  unfoldable pub going_on : State K → (ℕ → K) → Option ℕ → (ℕ → K) → ℕ → K
  going_on s w None x = x
  going_on s w (Some q) x = advanced F s.factors w q x

  -- the same of n columns x j worked ahead, at targets t j
  unfoldable pub panelled : Pick → ℕ → State K → (ℕ → ℕ → K) → (ℕ → K) → List (Verdict K) × State K
  panelled pick zero s x t = ([], s)
  panelled pick (suc n) s x t =
      let p = picked pick s (x 0) in
      first_then (decided s (x 0) (t 0) p) (λ u. panelled pick n u (λ j. going_on s (x 0) p (x (suc j))) (λ j. t (suc j)))

  -- by the first entry of the rest that is not zero: none, and the query is fixed; one, and it is free
  unfoldable pub replied : State K → (ℕ → K) → Option ℕ → Reply K
  replied s w None = let x = combination F s.factors w in fixed (value_of s x) x
  replied s w (Some i) = free (motion F s.factors w i)

  -- the reply to the query q
  unfoldable pub enquired : State K → (ℕ → K) → Reply K
  enquired s q =
      let w = worked F s.factors q in
      replied s w (lead F (s.factors.height - s.factors.rank) (λ i. w (s.factors.rank + i)))

  -- the assignment that meets every target
  unfoldable pub solution : State K → ℕ → K
  solution s = assignment F s.factors s.target
