use Rattle.std.proofs.Common.{sym, ◌∙◌, arith}
use Rattle.columns.proofs.Pivots.{inside_holds}
use Rattle.columns.proofs.workings.check_swap.Goals as goal

pub returns-clause-inside : goal.returns-clause-inside
returns-clause-inside c = λ k l. omega (arith, inside_holds c.args.height 0 c.args.pivots.now (sym c.inside.ensures ∙ c.if-not-inside.false) k l)
