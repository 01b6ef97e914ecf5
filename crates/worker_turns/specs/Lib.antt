pub mod TurnBounds
pub mod Alone
pub mod Reads
pub mod Offering
pub mod Leisure
