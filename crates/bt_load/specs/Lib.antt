pub mod Lines
pub mod Files
pub mod Loaders
pub mod Choice
pub mod Kinds
pub mod Stops
