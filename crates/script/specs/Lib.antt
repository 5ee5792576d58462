pub mod Logs
pub mod Scripts
pub mod Playing
pub mod Plays
