pub mod State
pub mod Cipher
pub mod Expansion
pub mod Grouping
pub mod Laws
pub mod Tower
pub mod Between
