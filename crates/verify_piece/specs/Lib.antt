pub mod Seals
pub mod Hashes
pub mod Checks
