pub mod Needed
pub mod Free
pub mod Passes
