pub mod Offer
pub mod Placing
