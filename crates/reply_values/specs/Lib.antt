pub mod Members
pub mod OutcomeLaws
pub mod Outcomes
pub mod Views
pub mod WorkedTexts
