pub mod Air
pub mod OnAir
pub mod Timeline
pub mod Verdicts
pub mod Replayed
