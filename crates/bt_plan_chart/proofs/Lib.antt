pub mod Adding
pub mod Marked
pub mod Meetings
pub mod Overlaps
pub mod Permutations
pub mod Places
pub mod Shown
