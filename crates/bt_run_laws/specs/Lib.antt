pub mod Readable
pub mod Small
