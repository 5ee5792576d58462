pub mod Told
pub mod Sheets
