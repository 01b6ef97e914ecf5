pub mod Changes
pub mod Names
pub mod Payload
pub mod Reading
