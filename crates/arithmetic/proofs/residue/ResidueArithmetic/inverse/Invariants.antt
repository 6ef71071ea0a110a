use Rattle.std.proofs.Common.{◌≡◌, ◌*◌, ◌%◌, ◌<◌}
use Rattle.arithmetic.proofs.residue.ResidueArithmetic.inverse.Given as goal

-- the factor so far, times the element, is the rest
abbrev pub invariant-loop-rest : goal.invariant-loop-rest
invariant-loop-rest l = (0 < l.rest) × (l.rest < 65479) × (l.factor < 65479) × (l.factor * l.initial.rest % 65479 ≡ l.rest)

abbrev pub decreases-loop-rest : goal.decreases-loop-rest
decreases-loop-rest l = l.rest
