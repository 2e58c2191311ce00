pub mod Causes
mod Answered
mod Copied
mod Keeping
mod Named
mod Opening
mod Past
