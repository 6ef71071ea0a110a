use Rattle.std.proofs.Common.{ℕ, ap, ◌∙◌, ap₂}
use Rattle.arithmetic.specs.Runs.{row}
use Rattle.columns.specs.Factors.{combination}
use Rattle.sets.specs.States.{repeated}
use Rattle.sets.specs.Sets.{state}
use Rattle.sets.proofs.Offers.{repeated_redundant, repeated_clash}
use Rattle.sets.proofs.set.offer.Set+T+Open.account.Goals as goal

pub returns-then-same : goal.returns-then-same
returns-then-same g c =
    let F = g.T.Arithmetic.field.ops in
    let value = g.T.Arithmetic.value in
    let s = state F value c.args.self.now in
    let x = row F value c.combine.new.run in
    let combines = c.combine.ensures ∙ ap₂ (combination F) c.factors.ensures.lent (ap (row F value) c.copy_from_slice.ensures.after ∙ c.next.ensures.values) in
    repeated_redundant F s x (value c.value-value.result) (value c.args.target) c.value-value.ensures c.if-same.ensures.answer
    ∙ ap (λ (y : ℕ → g.T.Arithmetic.field.Carrier). repeated F s y (value c.args.target)) combines

pub returns-else-same : goal.returns-else-same
returns-else-same g c =
    let F = g.T.Arithmetic.field.ops in
    let value = g.T.Arithmetic.value in
    let s = state F value c.args.self.now in
    let x = row F value c.combine.new.run in
    let combines = c.combine.ensures ∙ ap₂ (combination F) c.factors.ensures.lent (ap (row F value) c.copy_from_slice.ensures.after ∙ c.next.ensures.values) in
    repeated_clash F s x (value c.value-value.result) (value c.args.target) c.value-value.ensures g.met.T.Arithmetic.lawful c.if-same.ensures.answer
    ∙ ap (λ (y : ℕ → g.T.Arithmetic.field.Carrier). repeated F s y (value c.args.target)) combines
