pub mod Offering
pub mod WorkedTurns
