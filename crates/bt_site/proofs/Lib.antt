mod Shared
pub mod Indexed
pub mod Lookup
mod Needs
pub mod Sending
mod Turning
mod Orders
mod Tells
mod Joins
mod Told
pub mod Standing
mod Heard
mod Pairs
mod Triples
pub mod WorldPlans
mod Frames
mod Onboard
pub mod Banks
mod Ground
mod Sends
mod Stays
pub mod Counted
pub mod Carried
pub mod Ranges
mod Anys
mod WorldCentre
mod Witness
mod Answers
mod Board
mod Agree
