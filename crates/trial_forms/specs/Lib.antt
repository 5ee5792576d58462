pub mod Flipped
pub mod Older
pub mod Laws
