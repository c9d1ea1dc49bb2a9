pub mod Recorded
pub mod Starts
pub mod Pens
