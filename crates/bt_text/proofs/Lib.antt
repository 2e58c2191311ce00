pub mod TextLines
pub mod TextNumbers
pub mod FirstLine
pub mod Front
pub mod Fronts
pub mod Faults
pub mod Steps
pub mod Places
