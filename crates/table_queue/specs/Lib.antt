pub mod Zips
pub mod Claims
pub mod Queues
