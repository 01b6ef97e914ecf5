pub mod Blocks
pub mod Fetches
pub mod Sources
