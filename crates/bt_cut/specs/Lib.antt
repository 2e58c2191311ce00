pub mod Bucket
pub mod Cutting
pub mod Parts
pub mod Serving
pub mod Generator
pub mod Made
pub mod Standing
