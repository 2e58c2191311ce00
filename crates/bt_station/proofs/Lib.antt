pub mod Statuses
pub mod Confirms
pub mod Turns
pub mod Requests
pub mod Acts
pub mod Said
