pub mod Searching
pub mod Paying
pub mod Turns
