use Rattle.columns.proofs.Searches.{Greater}
use Rattle.columns.proofs.choosers.GreatestChooser.choose.Given as goal

abbrev pub invariant-loop-i : goal.invariant-loop-i
invariant-loop-i l = Greater l.codes l.i l.best l.top
