pub mod Lines
pub mod Scripts
pub mod Texts
pub mod Outcomes
pub mod Runs
pub mod Sessions
pub mod Utf8
