pub mod Fetched
pub mod Laws
pub mod Losses
pub mod Probes
