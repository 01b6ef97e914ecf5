pub mod Lines
pub mod Lifting
pub mod Refusals
