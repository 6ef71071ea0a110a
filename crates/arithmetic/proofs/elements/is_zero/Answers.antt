use Rattle.arithmetic.specs.Lemmas.Laws.{not_all_zero}
use Rattle.arithmetic.proofs.elements.is_zero.Goals as goal

pub returns-clause-not_all : goal.returns-clause-not_all
returns-clause-not_all g c = not_all_zero g.T.Arithmetic.field.ops g.met.T.Arithmetic.lawful
