pub mod Begin
pub mod Evenly
pub mod Looking
pub mod Onward
pub mod Shown
pub mod Shows
