pub mod Files
pub mod OneCheck
pub mod Endings
pub mod Payloads
pub mod Checks
