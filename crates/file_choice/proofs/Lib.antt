pub mod Members
pub mod Flags
pub mod Held
