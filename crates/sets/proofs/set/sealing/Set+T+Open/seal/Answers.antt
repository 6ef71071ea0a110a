use Rattle.sets.specs.Histories.Step.{sealing}
use Rattle.sets.proofs.set.sealing.Set+T+Open.seal.Goals as goal

pub returns-clause-step : goal.returns-clause-step
returns-clause-step g c = sealing
