pub mod Serving
pub mod Laws
pub mod Places
