pub mod Flows
pub mod Taken
