pub mod Stepping
pub mod Playings
pub mod Courses
pub mod Tables
