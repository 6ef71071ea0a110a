use Rattle.std.proofs.Common.{◌≡◌, ◌%◌, ◌<◌, ◌∙◌, mod-lt, arith}
use Rattle.arithmetic.specs.Lemmas.Primes.{prime_65479}
use Rattle.arithmetic.specs.Lemmas.Residues.{turn, inverse_is, inverse_of_zero}
use Rattle.arithmetic.proofs.residue.ResidueArithmetic.inverse.Goals as goal

pub returns-then-rest-eq0 : goal.returns-then-rest-eq0
returns-then-rest-eq0 c = c.zero.ensures ∙ inverse_of_zero c.args.self.0 (omega arith)

pub loop-rest-preserved : goal.loop-rest-preserved
loop-rest-preserved c =
    let rest = c.loop-rest.rest in
    let inv = c.loop-rest.invariant in
    let less : 65479 % rest < rest = mod-lt 65479 inv.0 in (
      prime_65479.indivisible rest (omega arith) inv.1,
      omega arith,
      mod-lt _ (omega arith),
      turn (c.args.self.0 % 65479) rest c.loop-rest.factor inv.0 inv.1 inv.3,
    )

pub returns : goal.returns
returns c =
    let one : c.loop-rest.rest ≡ 1 = omega arith in
    inverse_is c.args.self.0 c.loop-rest.factor (c.loop-rest.invariant.3 ∙ one)
