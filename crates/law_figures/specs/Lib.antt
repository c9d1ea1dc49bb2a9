pub mod Shown
pub mod Shows
pub mod Looking
