use Rattle.arithmetic.specs.Lemmas.Parities.{negative_is}
use Rattle.arithmetic.proofs.parity.ParityArithmetic.negative.Goals as goal

pub returns : goal.returns
returns c = negative_is c.args.self
