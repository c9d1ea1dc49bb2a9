pub mod Shares
pub mod InUse
