pub mod Shaft
pub mod PoetAes
pub mod Mirror
pub mod Listed
