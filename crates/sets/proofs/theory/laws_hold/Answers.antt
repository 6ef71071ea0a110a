use Rattle.std.proofs.Common.{rules}
use Rattle.sets.proofs.Laws.{laws}
use Rattle.sets.proofs.theory.laws_hold.Goals as goal

pub returns : goal.returns
returns g c = record { laws = laws g.T.Arithmetic.field.ops g.met.T.Arithmetic.lawful; zero = search rules }
