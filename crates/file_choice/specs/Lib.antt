pub mod Selected
pub mod Sweeps
