mod Stretches
mod Waits
pub mod Levels
