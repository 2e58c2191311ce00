pub mod Names
pub mod Json
pub mod Walk
pub mod InTurn
pub mod NameBytes
