pub mod Blocks
pub mod Inverses
pub mod Rounds
pub mod Undone
pub mod Words
pub mod Schedules
mod Lanes
mod Inversion
mod EachByte
mod EachState
mod Undoing
mod Three
