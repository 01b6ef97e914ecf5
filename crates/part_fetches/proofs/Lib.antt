pub mod Following
mod Lengths
mod Once
pub mod Probing
