pub mod Gets
pub mod Plan
