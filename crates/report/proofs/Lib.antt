pub mod Listing
pub mod Delivering
pub mod Numbering
pub mod Choosing
