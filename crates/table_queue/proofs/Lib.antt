pub mod Known
pub mod Making
