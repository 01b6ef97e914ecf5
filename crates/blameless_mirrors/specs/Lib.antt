pub mod Blameless
pub mod Chosen
pub mod Lone
pub mod LoneUris
