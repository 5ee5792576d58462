pub mod Field
pub mod Substitution
pub mod Columns
pub mod Laws
