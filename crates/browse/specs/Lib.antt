pub mod Words
pub mod Shown
pub mod Browsing
