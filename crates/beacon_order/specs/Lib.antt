pub mod Ties
pub mod Filled
pub mod Sorts
pub mod Listed
pub mod Keys
pub mod Inserted
pub mod Filling
