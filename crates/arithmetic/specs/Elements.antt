-- Residues and parities: the fields, and the value of each element.
use Rattle.std.specs.Prelude.{ℕ}
use Rattle.std.proofs.Common.{lit<}
use Rattle.arithmetic.specs.Fields.{Arith}
use Rattle.arithmetic.specs.Modular.{Below, reduced, modular}
use Rattle.arithmetic.specs.declared.residue.Residue.{Residue}
use Rattle.arithmetic.specs.declared.parity.Parity.{Parity}
use Rattle.arithmetic.specs.declared.parity.Parity.TheVariants.{Even, Odd}

abbrev pub residues : Arith
residues = record { Carrier = Below 65479; ops = modular 65479 (lit< tt) }

-- any 16-bit number is a residue, by its remainder
abbrev pub residue : Residue → Below 65479
residue x = reduced 65479 (lit< tt) x.0

abbrev pub parities : Arith
parities = record { Carrier = Below 2; ops = modular 2 (lit< tt) }

abbrev pub bit : Parity → ℕ
bit Even = 0
bit Odd = 1

abbrev pub parity : Parity → Below 2
parity x = reduced 2 (lit< tt) (bit x)
