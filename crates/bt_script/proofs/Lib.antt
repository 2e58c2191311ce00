pub mod Shapes
pub mod ScriptLines
pub mod Grouping
pub mod Naming
pub mod Order
pub mod Counting
pub mod Words
