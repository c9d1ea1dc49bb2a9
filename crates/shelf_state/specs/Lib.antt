pub mod Cutting
pub mod Sizes
pub mod Whole
pub mod Parts
