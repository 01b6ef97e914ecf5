pub mod Paths
pub mod Cuts
pub mod Changes
