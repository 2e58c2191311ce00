pub mod Acts
pub mod Processes
pub mod Premises
pub mod Example
pub mod Worker
