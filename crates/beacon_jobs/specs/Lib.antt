pub mod Needs
pub mod Limits
pub mod Listing
pub mod JobRows
