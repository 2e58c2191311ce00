mod SatelliteRows
mod Ascending
pub mod Past
mod Standing
mod Said
mod Ahead
pub mod SatelliteByEvents
mod Joins
pub mod TerminalRows
mod Stay
mod Carried
mod Silence
mod Distinct
pub mod Ground
mod TerminalByEvents
mod Behind
mod Sets
mod Heard
