pub mod History
pub mod Ledger
pub mod Demand
pub mod Assignment
