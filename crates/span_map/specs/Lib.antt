pub mod Jobs
pub mod Order
pub mod Layout
pub mod Paths
pub mod Slices
