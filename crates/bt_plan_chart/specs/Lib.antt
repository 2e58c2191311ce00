pub mod Parts
pub mod Scale
pub mod Chart
pub mod Overlap
pub mod Marks
