pub mod Extending
pub mod Places
