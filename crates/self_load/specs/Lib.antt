pub mod Inner
pub mod Outcomes
