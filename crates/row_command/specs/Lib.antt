pub mod Reads
pub mod CommandLaws
