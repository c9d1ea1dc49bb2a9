pub mod Ties
pub mod TiePlaces
pub mod InUse
pub mod Unique
