pub mod Had
pub mod Link
pub mod Grown
pub mod Serving
pub mod Planned
pub mod Keeps
pub mod Proof
pub mod Example
