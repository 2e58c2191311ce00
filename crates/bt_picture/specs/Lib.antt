pub mod Sheet
pub mod Picture
pub mod Drawn
