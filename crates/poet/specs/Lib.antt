pub mod Functions
pub mod Seal
pub mod Rows
pub mod Laws
