pub mod Histories
pub mod Steps
pub mod Passes
pub mod Beginnings
pub mod Adding
pub mod Rules
pub mod Sent
