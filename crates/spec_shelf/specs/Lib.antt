pub mod Printed
pub mod Meaning
pub mod Room
pub mod Bytes
pub mod Commands
