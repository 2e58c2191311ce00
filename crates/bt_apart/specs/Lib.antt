pub mod Apart
pub mod Back
pub mod Inside
