pub mod Edf
pub mod Converse
pub mod Greedy
pub mod Necessity
pub mod Periodic
pub mod Share
