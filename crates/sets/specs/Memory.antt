-- What a set's memory holds: packed columns of one height, the next column, and the targets.
use Rattle.std.specs.Prelude.{ℕ, ◌+◌, List}
use Rattle.arithmetic.specs.Fields.{Field}
use Rattle.columns.specs.Swaps.{joined}
use Rattle.columns.specs.Factors.{Packed}
use Rattle.columns.specs.Panels.{cells, offsets}
use Rattle.sets.specs.States.{State}

module _ {K X : Type 0} (F : Field K) (value : X → K) where
  -- the first r columns of m rows, with their pivots; zero from column r and from row m on
  unfoldable pub packed : ℕ → ℕ → List X → List ℕ → Packed K
  packed m r memory pivots = record {
    height = m;
    rank = r;
    entry = joined r (cells F value m memory) (λ j i. F.zero);
    offset = joined r (offsets pivots) (λ k. 0);
  }

  -- the targets stand after the m + 1 columns
  unfoldable pub stored : ℕ → ℕ → List X → List ℕ → State K
  unfolding packed
  stored m r memory pivots = record { factors = packed m r memory pivots; target = joined r (cells F value m memory (m + 1)) (λ j. F.zero) }
