pub mod Allocation
pub mod Border
pub mod Part
pub mod PartText
pub mod PartVerdict
pub mod Short
