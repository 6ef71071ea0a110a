use Rattle.arithmetic.specs.Lemmas.Residues.{sum_is}
use Rattle.arithmetic.proofs.residue.ResidueArithmetic.sum.Goals as goal

pub returns : goal.returns
returns c = sum_is c.args.self.0 c.args.other.0
