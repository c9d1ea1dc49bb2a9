pub mod Gets
pub mod Jobs
pub mod Plan
