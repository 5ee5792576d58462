pub mod Showing
pub mod Playing
