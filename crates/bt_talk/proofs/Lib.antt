pub mod Places
pub mod Scripts
pub mod Tags
pub mod InTurn
