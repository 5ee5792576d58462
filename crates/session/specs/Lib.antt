pub mod Directions
pub mod Steps
pub mod Engines
pub mod Calls
pub mod Runs
pub mod Promise
pub mod Sessions
pub mod Straight
