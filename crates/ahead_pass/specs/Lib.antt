pub mod Passed
pub mod PassingLaws
