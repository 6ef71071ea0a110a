-- Parities: what the functions compute is what the field says.
use Rattle.std.specs.Prelude.{◌≡◌, refl}
use Rattle.std.proofs.Common.{lit<}
use Rattle.arithmetic.specs.Fields.{Lawful}
use Rattle.arithmetic.specs.Modular.{inverse_of}
use Rattle.arithmetic.specs.Elements.{parities, parity}
use Rattle.arithmetic.specs.declared.parity.Parity.{Parity}
use Rattle.arithmetic.specs.declared.parity.Parity.TheVariants.{Even, Odd}
use Rattle.arithmetic.specs.Lemmas.Primes.{prime_2}
use Rattle.arithmetic.specs.Lemmas.Modulars.{below_path, modular_lawful}

pub parities_lawful : Lawful parities.ops
parities_lawful = modular_lawful 2 prime_2 (lit< tt) (lit< tt)

pub negative_is : (x : Parity) → parity x ≡ parities.ops.negative (parity x)
negative_is Even = below_path refl
negative_is Odd = below_path refl

pub inverse_is : (x : Parity) → parity x ≡ parities.ops.inverse (parity x)
unfolding inverse_of
inverse_is Even = below_path refl
inverse_is Odd = below_path refl

pub even_product : (x : Parity) → parity Even ≡ parities.ops.product (parity Even) (parity x)
even_product Even = below_path refl
even_product Odd = below_path refl
