pub mod Lines
pub mod Written
pub mod Forms
pub mod Filled
pub mod Names
pub mod Tags
pub mod Moments
