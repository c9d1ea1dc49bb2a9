pub mod Names
pub mod Frames
pub mod Records
pub mod Loads
