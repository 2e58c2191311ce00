pub mod Network
pub mod Numbered
pub mod Reading
pub mod Terminals
pub mod Name
pub mod Fault
pub mod Walk
