pub mod Puts
pub mod Plans
pub mod Ready
pub mod Sizes
