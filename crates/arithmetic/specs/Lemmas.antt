-- Lemmas, and what only they speak of; no clause cites a definition of these files. They lie in specs/ because the laws of an impl may cite specs/ alone.
pub mod Remainders
pub mod Primes
pub mod Modulars
pub mod Parities
pub mod Laws
pub mod Residues
