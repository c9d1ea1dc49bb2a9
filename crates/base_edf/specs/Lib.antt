pub mod Time
pub mod Edf
pub mod Converse
pub mod Necessity
pub mod Greedy
