pub mod Step
pub mod Sites
pub mod Fits
pub mod Behind
pub mod Late
pub mod Stamps
pub mod OnAir
pub mod Acts
