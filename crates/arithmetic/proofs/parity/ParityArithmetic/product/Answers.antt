use Rattle.arithmetic.specs.Lemmas.Parities.{even_product}
use Rattle.arithmetic.proofs.parity.ParityArithmetic.product.Goals as goal

pub returns-in-Even : goal.returns-in-Even
returns-in-Even c = rw c.in-Even.is (even_product c.args.other)
