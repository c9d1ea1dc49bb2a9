pub mod Need
pub mod Needs
