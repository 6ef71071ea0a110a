-- What a set lends to be read.
use Rattle.arithmetic.specs.Fields.{Field}
use Rattle.columns.specs.Factors.{Packed}
use Rattle.sets.specs.Memory.{packed}
use Rattle.sets.specs.declared.factors.Factors.{Factors}

-- the packed factors that were lent
abbrev pub lent : {K T : Type 0} → Field K → (T → K) → Factors T → Packed K
lent F value f = packed F value f.height f.rank f.columns.now f.pivots.now
