pub mod Afresh
pub mod Changes
pub mod Kept
pub mod NewRuns
pub mod Progress
pub mod Steps
pub mod Sums
pub mod View
