pub mod Test
pub mod Linear
pub mod Inverses
pub mod Substitution
pub mod Columns
