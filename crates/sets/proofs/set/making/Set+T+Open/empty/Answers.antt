use Rattle.sets.proofs.Stores.{stored_none}
use Rattle.sets.proofs.set.making.Set+T+Open.empty.Goals as goal

pub returns-clause-state : goal.returns-clause-state
returns-clause-state g c = stored_none g.T.Arithmetic.field.ops g.T.Arithmetic.value c.args.unknowns _ _
