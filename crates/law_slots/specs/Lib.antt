pub mod Choice
pub mod Service
pub mod Meets
pub mod Idle
pub mod Cuts
pub mod Runs
pub mod Count
pub mod Events
