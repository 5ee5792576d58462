pub mod Flips
pub mod Olders
