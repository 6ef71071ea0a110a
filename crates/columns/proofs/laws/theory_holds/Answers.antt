use Rattle.columns.proofs.Theory.{theory}
use Rattle.columns.proofs.laws.theory_holds.Goals as goal

pub returns-clause-theory : goal.returns-clause-theory
returns-clause-theory g c = theory g.T.Arithmetic.field.ops g.met.T.Arithmetic.lawful
