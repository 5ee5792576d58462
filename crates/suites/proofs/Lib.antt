pub mod Lawful
mod Setting
