-- The laws of sets: what holds of every history, and of every two.
use Rattle.std.specs.Prelude.{◌≡◌, ℕ, ◌<◌, ◌≤◌, ◌↔◌, List, ◌∷◌, ◌++◌, length, slice_index_or}
use Rattle.arithmetic.specs.Fields.{Field}
use Rattle.arithmetic.specs.Runs.{dot}
use Rattle.columns.specs.Linear.{Selection, multiply, Independent, Motion}
use Rattle.columns.specs.Picks.{Pick}
use Rattle.columns.specs.Factors.{Packed, permuted, Alike, Valid, UnitLower, Upper, lower, upper, worked}
use Rattle.columns.specs.Determinants.{determinant}
use Rattle.sets.specs.States.{State, Offer, Reply, listed, in_turn, panelled}
use Rattle.sets.specs.States.Verdict.{taken, redundant, clash}
use Rattle.sets.specs.States.Reply.{fixed, free}
use Rattle.sets.specs.Subject.{Held, Judgement, keep, kept, IsTaken, IsClash, IsFixed, nothing, ZeroFrom}
use Rattle.sets.specs.Subject.{Combination, Combines, value, Compatible, Solution, holding, Judges, Replies}
use Rattle.sets.specs.Histories.{Call, History, judgements, questions, answers, solutions, determinants}
use Rattle.sets.specs.Histories.Call.{enquire, rebuild, solve, determine}

-- j was judged, and these were judged before it
pub record Judged {K : Type 0} (cs : List (Call K)) (before : List (Judgement K)) (j : Judgement K) : Type 0 where
  pub after : List (Judgement K)
  pub order : judgements cs ≡ before ++ (j ∷ after)

-- c was called, and these were called before it, the newest first
pub record Called {K : Type 0} (cs before : List (Call K)) (c : Call K) : Type 0 where
  pub after : List (Call K)
  pub order : cs ≡ after ++ (c ∷ before)

module _ {K : Type 0} (F : Field K) where
  open F use {zero as 𝟘}

  -- what is held after judgements on an empty set
  unfoldable pub held_after : List (Judgement K) → Held K
  held_after js = kept (nothing F) js

  -- and after calls, the newest first
  unfoldable pub held : List (Call K) → Held K
  held cs = held_after (judgements cs)

  -- the column judged at place p
  unfoldable pub judged_column : List (Call K) → ℕ → ℕ → K
  judged_column cs p = (slice_index_or (judgements cs) p (record { column = λ i. 𝟘; target = 𝟘; verdict = taken 0 })).column

  -- P A = L U, L unit lower, U upper and nowhere zero on its diagonal
  pub record Factored (m : ℕ) (h : Held K) (s : Packed K) : Type 0 where
    pub lower_unit : UnitLower F h.count (lower F s)
    pub upper_diagonal : Upper F h.count (upper F s)
    pub product : (j i : ℕ) → j < h.count → i < m → permuted s (h.column j) i ≡ multiply F h.count (lower F s) (upper F s) j i

  -- x gives b, at this value, and no other combination gives b
  pub record OnlyCombination (m : ℕ) (h : Held K) (b : ℕ → K) (v : K) (x : ℕ → K) : Type 0 where
    pub combination : Combination F m h b x
    pub valued : value F h x ≡ v
    pub only : (y : ℕ → K) → Combination F m h b y → y ≡ x

  -- x solves, and nothing else does
  pub record OnlySolution (m : ℕ) (h : Held K) (x : ℕ → K) : Type 0 where
    pub solution : Solution F m h x
    pub only : (y : ℕ → K) → Solution F m h y → y ≡ x

  -- the column b and the target t are those held at place j
  pub record HeldAt (h : Held K) (j : ℕ) (b : ℕ → K) (t : K) : Type 0 where
    pub inside : j < h.count
    pub column : b ≡ h.column j
    pub target : t ≡ h.target j

  -- d is the determinant of as many columns as there are unknowns
  pub record Determined (m : ℕ) (h : Held K) (d : K) : Type 0 where
    pub full : h.count ≡ m
    pub value_is : d ≡ determinant F m h.column

  -- nothing but what is stored: zeros from the rank on and from the height on
  pub record Ends (s : State K) : Type 0 where
    pub columns : (j i : ℕ) → s.factors.rank ≤ j → s.factors.entry j i ≡ 𝟘
    pub rows : (j i : ℕ) → s.factors.height ≤ i → s.factors.entry j i ≡ 𝟘
    pub offsets : (k : ℕ) → s.factors.rank ≤ k → s.factors.offset k ≡ 0
    pub targets : (j : ℕ) → s.factors.rank ≤ j → s.target j ≡ 𝟘

  -- What holds of one judgement, where h was held before it and k is held now.
  pub record VerdictHolds (m : ℕ) (h k : Held K) (j : Judgement K) : Type 0 where
    pub judges : Judges F m h j.column j.target j.verdict (keep h j.column j.target j.verdict)
    -- taken exactly if it is no combination of the columns held before, and at the place after them
    pub taken_exactly : IsTaken j.verdict ↔ ¬ Combines F m h j.column
    pub taken_place : (p : ℕ) → j.verdict ≡ taken p → p ≡ h.count
    -- a clash exactly if no assignment meets it with the columns held before, nor with those held now
    pub clash_exactly : IsClash j.verdict ↔ ¬ Compatible F m h j.column j.target
    pub clash_still : IsClash j.verdict ↔ ¬ Compatible F m k j.column j.target
    -- a redundant column is shown by its only combination, whose value is the target
    pub redundant_shown : (x : ℕ → K) → j.verdict ≡ redundant x → OnlyCombination m h j.column j.target x
    -- and a clash by its only combination, whose value is another
    pub clash_shown : (v : K) (x : ℕ → K) → j.verdict ≡ clash v x → OnlyCombination m h j.column v x × ¬ (v ≡ j.target)

  -- What holds of the reply a to the query q, where h was held.
  pub record ReplyHolds (m : ℕ) (h : Held K) (q : ℕ → K) (a : Reply K) : Type 0 where
    pub replies : Replies F m h q a
    -- fixed exactly if it is a combination of the held columns, and shown by the only one
    pub fixed_exactly : IsFixed a ↔ Combines F m h q
    pub fixed_shown : (v : K) (x : ℕ → K) → a ≡ fixed v x → OnlyCombination m h q v x
    -- else the motion shown, of the m unknowns, rests on every held column and moves the query by one
    pub moved : (w : ℕ → K) → a ≡ free w → Motion F m h.count h.column q w × ZeroFrom F m w

  -- What holds after the calls cs on a set of m unknowns, in the state s.
  pub record Holds (m : ℕ) (cs : List (Call K)) (s : State K) : Type 0 where
    pub height : s.factors.height ≡ m
    pub valid : Valid F s.factors
    pub ends : Ends s
    pub held_are_those_taken : holding F s ≡ held cs
    pub factored : Factored m (held cs) s.factors
    pub independent : Independent F m (held cs).count (held cs).column
    -- no independent selection from the judged columns is longer
    pub longest : (n : ℕ) (place : ℕ → ℕ) → Selection (length (judgements cs)) n place
        → Independent F m n (λ j. judged_column cs (place j)) → n ≤ (held cs).count
    -- one assignment meets every judged column not called a clash
    pub met : (x : ℕ → K) × ((before : List (Judgement K)) (j : Judgement K) → Judged cs before j
        → ¬ IsClash j.verdict → dot F m x j.column ≡ j.target)
    -- every call told the truth of what was held then
    pub judged : (before : List (Judgement K)) (j : Judgement K) → Judged cs before j → VerdictHolds m (held_after before) (held cs) j
    pub enquired : (before : List (Call K)) (q : ℕ → K) (a : Reply K) → Called cs before (enquire q a) → ReplyHolds m (held before) q a
    pub rebuilt : (before : List (Call K)) (j : ℕ) (b : ℕ → K) (t : K) → Called cs before (rebuild j b t) → HeldAt (held before) j b t
    pub solved : (before : List (Call K)) (x : ℕ → K) → Called cs before (solve x) → OnlySolution m (held before) x
    pub determined : (before : List (Call K)) (d : K) → Called cs before (determine d) → Determined m (held before) d

  -- What two histories share whose questions are the same, whatever the choosers, batches, refusals and other calls.
  pub record Agreement (cs ds : List (Call K)) : Type 0 where
    -- every verdict, value and combination
    pub answered : answers cs ≡ answers ds
    pub held_same : held cs ≡ held ds
    -- every solution and determinant that both give
    pub solved : (p q : ℕ) → p < length (solutions cs) → q < length (solutions ds)
        → slice_index_or (solutions cs) p (λ i. 𝟘) ≡ slice_index_or (solutions ds) q (λ i. 𝟘)
    pub determined : (p q : ℕ) → p < length (determinants cs) → q < length (determinants ds)
        → slice_index_or (determinants cs) p 𝟘 ≡ slice_index_or (determinants ds) q 𝟘

  pub record Laws : Type 0 where
    pub each : (m : ℕ) (cs : List (Call K)) (s : State K) → History F m cs s → Holds m cs s
    pub two : (m : ℕ) (cs ds : List (Call K)) (s u : State K) → History F m cs s → History F m ds u → questions cs ≡ questions ds → Agreement cs ds
    -- states that agree in what is stored, and have nothing else, are equal
    pub only_stored_counts : (s u : State K) → Ends s → Ends u → Alike s.factors u.factors
        → ((j : ℕ) → j < s.factors.rank → s.target j ≡ u.target j) → s ≡ u
    -- a panel worked ahead is judged as its columns are one after another
    pub panels : (pick : Pick) (n : ℕ) (s : State K) (b : ℕ → ℕ → K) (t : ℕ → K)
        → panelled F pick n s (λ j. worked F s.factors (b j)) t ≡ in_turn F pick s (listed n (λ j. (b j, t j)))
    -- and so are offers however they are cut
    pub cuts : (pick : Pick) (s : State K) (os ps : List (Offer K))
        → let o = in_turn F pick s os in let e = in_turn F pick o.1 ps in in_turn F pick s (os ++ ps) ≡ (o.0 ++ e.0, e.1)
