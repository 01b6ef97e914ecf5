mod Back
pub mod Ones
pub mod Places
pub mod Rows
