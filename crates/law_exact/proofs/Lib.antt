pub mod Needed
pub mod Plans
pub mod Offer
