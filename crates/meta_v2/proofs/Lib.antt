pub mod Apart
pub mod Hashing
pub mod Keys
pub mod Paths
pub mod PieceLengths
pub mod Soundness
pub mod Steps
pub mod Totals
pub mod Walking
mod WorkedRows
