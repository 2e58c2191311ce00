pub mod CommandWords
pub mod OnePage
pub mod OneChart
pub mod Naming
pub mod Newest
pub mod Rows
