pub mod Answered
pub mod Kept
pub mod Lines
pub mod Noted
