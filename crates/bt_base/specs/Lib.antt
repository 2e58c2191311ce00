pub mod Calls
pub mod Held
pub mod Failing
pub mod Lines
pub mod Medium
pub mod MemoryDisk
pub mod Moments
