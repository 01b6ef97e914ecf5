pub mod Answers
pub mod Asks
pub mod Faults
pub mod Outcomes
pub mod Texts
pub mod Turns
