pub mod Calls
pub mod Level
pub mod Rates
