use Rattle.arithmetic.specs.Lemmas.Parities.{inverse_is}
use Rattle.arithmetic.proofs.parity.ParityArithmetic.inverse.Goals as goal

pub returns : goal.returns
returns c = inverse_is c.args.self
