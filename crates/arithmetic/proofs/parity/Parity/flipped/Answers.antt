use Rattle.std.proofs.Common.{refl}
use Rattle.arithmetic.specs.Lemmas.Modulars.{below_path}
use Rattle.arithmetic.proofs.parity.Parity.flipped.Goals as goal

pub returns-in-Odd : goal.returns-in-Odd
returns-in-Odd c = rw c.in-Odd.is (below_path refl)
