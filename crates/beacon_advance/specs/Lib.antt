pub mod Zipped
pub mod Moving
pub mod Next
