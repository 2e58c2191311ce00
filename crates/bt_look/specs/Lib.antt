pub mod Room
pub mod Compact
pub mod Look
pub mod Measure
pub mod State
pub mod Installed
