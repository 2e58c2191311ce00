pub mod Spaces
pub mod PlanWords
pub mod Words
pub mod Spelled
pub mod ChangeLines
pub mod Marks
