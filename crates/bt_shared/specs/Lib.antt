pub mod Legal
pub mod Passes
pub mod Turns
pub mod Plans
pub mod Log
pub mod Rule
pub mod Posted
