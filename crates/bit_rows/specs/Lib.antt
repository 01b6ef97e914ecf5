pub mod Kept
pub mod Row
pub mod RowLaws
pub mod Runs
