use Rattle.arithmetic.specs.Lemmas.Residues.{product_is}
use Rattle.arithmetic.proofs.residue.ResidueArithmetic.product.Goals as goal

pub returns : goal.returns
returns c = product_is c.args.self.0 c.args.other.0
