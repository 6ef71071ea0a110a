use Rattle.examples.proofs.Worked.{all_worked}
use Rattle.examples.proofs.residues.residue_codes.Goals as goal

pub returns : goal.returns
returns c = record { defined = all_worked; computed = cc (all_worked.inverse_of_two, all_worked.minus_one, all_worked.order) }
