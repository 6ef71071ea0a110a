-- The subject's own words, free of any chooser and of the packing.
use Rattle.std.specs.Prelude.{◌≡◌, ℕ, suc, ◌<◌, ◌≤◌, List, [], ◌∷◌}
use Rattle.arithmetic.specs.Fields.{Field}
use Rattle.arithmetic.specs.Runs.{dot}
use Rattle.columns.specs.Linear.{combine, CombinationOf, Motion}
use Rattle.columns.specs.Swaps.{put, joined}
use Rattle.columns.specs.Factors.{rebuilt}
use Rattle.sets.specs.States.{State, Verdict, Reply}
use Rattle.sets.specs.States.Verdict.{taken, redundant, clash}
use Rattle.sets.specs.States.Reply.{fixed, free}

-- the columns held, in order of taking, and their targets; zero from the count on
pub record Held (K : Type 0) : Type 0 where
  pub count : ℕ
  pub column : ℕ → ℕ → K
  pub target : ℕ → K

-- one column more
abbrev pub hold : {K : Type 0} → Held K → (ℕ → K) → K → Held K
hold h b t = record { count = suc h.count; column = put h.count b h.column; target = put h.count t h.target }

-- a column judged, its target and its verdict
pub record Judgement (K : Type 0) : Type 0 where
  pub column : ℕ → K
  pub target : K
  pub verdict : Verdict K

-- what is held after a judgement
unfoldable pub keep : {K : Type 0} → Held K → (ℕ → K) → K → Verdict K → Held K
keep h b t (taken p) = hold h b t
keep h b t (redundant x) = h
keep h b t (clash v x) = h

-- after judgements: those called taken, in order
unfoldable pub kept : {K : Type 0} → Held K → List (Judgement K) → Held K
kept h [] = h
kept h (j ∷ js) = kept (keep h j.column j.target j.verdict) js

abbrev pub IsTaken : {K : Type 0} → Verdict K → Type 0
IsTaken (taken p) = Unit {0}
IsTaken (redundant x) = ⊥
IsTaken (clash v x) = ⊥

abbrev pub IsClash : {K : Type 0} → Verdict K → Type 0
IsClash (taken p) = ⊥
IsClash (redundant x) = ⊥
IsClash (clash v x) = Unit {0}

abbrev pub IsFixed : {K : Type 0} → Reply K → Type 0
IsFixed (fixed v x) = Unit {0}
IsFixed (free w) = ⊥

module _ {K : Type 0} (F : Field K) where
  open F use {zero as 𝟘}

  abbrev pub nothing : Held K
  nothing = record { count = 0; column = λ j i. 𝟘; target = λ j. 𝟘 }

  -- zero from row m on, as a list of m elements reads
  abbrev pub ZeroFrom : ℕ → (ℕ → K) → Type 0
  ZeroFrom m b = (i : ℕ) → m ≤ i → b i ≡ 𝟘

  -- the held columns, of height m, each times its coefficient in x, add up to b
  pub record Combination (m : ℕ) (h : Held K) (b x : ℕ → K) : Type 0 where
    pub gives : (i : ℕ) → i < m → combine F h.count h.column x i ≡ b i
    pub zeros : ZeroFrom h.count x

  -- b is a combination of the held columns
  abbrev pub Combines : ℕ → Held K → (ℕ → K) → Type 0
  Combines m h b = CombinationOf F m h.count h.column b

  -- a combination's value: the sum of the targets, each times its coefficient
  unfoldable pub value : Held K → (ℕ → K) → K
  value h x = dot F h.count h.target x

  -- the assignment x gives every held column its target
  abbrev pub Meets : ℕ → Held K → (ℕ → K) → Type 0
  Meets m h x = (j : ℕ) → j < h.count → dot F m x (h.column j) ≡ h.target j

  -- some assignment meets the held columns, and b at target t with them
  abbrev pub Compatible : ℕ → Held K → (ℕ → K) → K → Type 0
  Compatible m h b t = (x : ℕ → K) × Meets m h x × (dot F m x b ≡ t)

  -- an assignment that meets as many columns as there are unknowns
  pub record Solution (m : ℕ) (h : Held K) (x : ℕ → K) : Type 0 where
    pub full : h.count ≡ m
    pub meets : Meets m h x
    pub zeros : ZeroFrom m x

  -- the columns that a state's factors rebuild, with their targets
  abbrev pub holding : State K → Held K
  holding s = record {
    count = s.factors.rank;
    column = joined s.factors.rank (λ j. joined s.factors.height (rebuilt F s.factors j) (λ i. 𝟘)) (λ j i. 𝟘);
    target = joined s.factors.rank s.target (λ j. 𝟘);
  }

-- one column judged: the verdict, and what is held after it
pub data Judges {K : Type 0} (F : Field K) (m : ℕ) (h : Held K) (b : ℕ → K) (t : K) : Verdict K → Held K → Type 0 where
  takes : ¬ Combines F m h b → Judges F m h b t (taken h.count) (hold h b t)
  repeats : {x : ℕ → K} → Combination F m h b x → value F h x ≡ t → Judges F m h b t (redundant x) h
  clashes : {x : ℕ → K} → Combination F m h b x → ¬ (value F h x ≡ t) → Judges F m h b t (clash (value F h x) x) h

-- one enquiry answered
pub data Replies {K : Type 0} (F : Field K) (m : ℕ) (h : Held K) (q : ℕ → K) : Reply K → Type 0 where
  fixes : {x : ℕ → K} → Combination F m h q x → Replies F m h q (fixed (value F h x) x)
  frees : {w : ℕ → K} → Motion F m h.count h.column q w → ZeroFrom F m w → Replies F m h q (free w)
