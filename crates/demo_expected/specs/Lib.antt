pub mod Said
pub mod Windows
pub mod Words
