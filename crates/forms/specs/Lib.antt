pub mod Numbers
pub mod Filling
pub mod Chained
pub mod Double
pub mod Masked
pub mod Keyed
pub mod Submitted
pub mod Laws
