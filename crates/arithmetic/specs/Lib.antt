pub mod Fields
pub mod Modular
pub mod Elements
pub mod Runs
pub mod Lemmas
