use Rattle.std.proofs.Common.{◌≡◌, arith}
use Rattle.std.proofs.lemmas.Grind.{common_steps}
use Rattle.columns.specs.Picks.{IsGreatest, greatest}
use Rattle.columns.specs.Lemmas.Picks.{said, greatest_in_words}
use Rattle.columns.proofs.choosers.GreatestChooser.choose.Goals as goal

pub returns-clause-in_words : goal.returns-clause-in_words
returns-clause-in_words c =
    let cs = c.args.codes.now in
    let us = c.args.unknowns.now in
    let found : c.loop-i.best ≡ greatest cs us = grind (arith, common_steps) in
    said cs us (IsGreatest cs) found (greatest_in_words cs us)
