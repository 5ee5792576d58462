pub mod Bytes
pub mod Permutes
