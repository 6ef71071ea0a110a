pub mod Schemes
pub mod Worked
