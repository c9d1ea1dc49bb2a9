pub mod Entries
pub mod Needed
pub mod Plans
