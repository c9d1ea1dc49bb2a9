pub mod Lines
pub mod LineLaws
pub mod Chunks
pub mod Kept
pub mod Cuts
