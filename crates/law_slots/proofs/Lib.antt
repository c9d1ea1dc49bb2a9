pub mod Choice
pub mod Count
pub mod Cuts
pub mod Events
pub mod Idle
pub mod Meets
pub mod Runs
pub mod Service
