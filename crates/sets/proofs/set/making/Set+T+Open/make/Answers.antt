use Rattle.std.proofs.Common.{[], sym, subst₂, arith}
use Rattle.sets.specs.Histories.{History}
use Rattle.sets.specs.Histories.History.{making}
use Rattle.sets.proofs.set.making.Set+T+Open.make.Goals as goal

pub returns-in-Ok-clause-started : goal.returns-in-Ok-clause-started
returns-in-Ok-clause-started g c =
    let told = c.empty.ensures in
    subst₂ (λ m s. History g.T.Arithmetic.field.ops m [] s) (sym told.unknowns) (sym told.state) (making (omega (arith, c.in-Ok.ensures.few)))

pub returns-in-Err-clause-started : goal.returns-in-Err-clause-started
returns-in-Err-clause-started g c =
    let told = c.empty-in-Err.ensures in
    subst₂ (λ m s. History g.T.Arithmetic.field.ops m [] s) (sym told.unknowns) (sym told.state) (making (omega arith))
