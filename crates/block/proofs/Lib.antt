pub mod Made
pub mod Xors
pub mod Completing
