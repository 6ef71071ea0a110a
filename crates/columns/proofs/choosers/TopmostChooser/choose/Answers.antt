use Rattle.std.proofs.Common.{◌≡◌, not, ◌==◌, position, sym, ◌∙◌, rules, tests}
use Rattle.std.proofs.lemmas.Iterator.{YieldsList-from_slice}
use Rattle.std.proofs.lemmas.Iterator.Search.{position_from_yields_List}
use Rattle.columns.specs.Lemmas.Picks.{fit_by_test, guard_on}
use Rattle.columns.proofs.choosers.TopmostChooser.choose.Goals as goal

pub returns-clause-picked : goal.returns-clause-picked
returns-clause-picked c =
    let cs = c.args.codes.now in
    let us = c.args.unknowns.now in
    let fit = fit_by_test cs us c.fits.result c.fits.ensures c.if-not-fits.false in
    let first = position_from_yields_List (λ x. not (x == 0)) _ _ c.position.result c.position.ensures.ran (YieldsList-from_slice cs cc) (λ x b q k. search (rules, tests)) in
    let same : _ ≡ c.position.result = search rules in
    same ∙ first ∙ sym (guard_on (λ xs ys. position (λ x. not (x == 0)) xs) cs us fit)
