pub mod Input
pub mod Output
pub mod Stored
pub mod Outcome
pub mod Faults
pub mod Report
pub mod Printing
