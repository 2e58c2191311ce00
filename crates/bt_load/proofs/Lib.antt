pub mod Loads
pub mod Misspelt
pub mod OneLoad
