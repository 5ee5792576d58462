mod Pieces
pub mod Whole
