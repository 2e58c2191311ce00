pub mod Text
pub mod Reading
pub mod WordReader
pub mod Short
