pub mod Times
pub mod Arrival
pub mod SendsText
pub mod Reading
pub mod DelayText
pub mod DelayTable
