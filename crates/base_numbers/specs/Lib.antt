pub mod Upward
