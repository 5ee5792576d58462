pub mod Table
pub mod Entries
pub mod Tests
pub mod Reading
pub mod Breaks
pub mod Calls
pub mod Laws
pub mod Inner
