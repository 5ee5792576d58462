pub mod Endian
pub mod Fillings
pub mod Chains
pub mod Doubles
pub mod Sums
pub mod Reversing
pub mod Forming
mod ByX
