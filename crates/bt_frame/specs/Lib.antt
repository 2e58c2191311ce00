pub mod Critical
pub mod Range
