pub mod Replies
pub mod Readers
pub mod Deliveries
