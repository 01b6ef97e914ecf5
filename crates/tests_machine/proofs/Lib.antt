pub mod Due
pub mod DueEnds
pub mod DueWrong
pub mod DueChecks
