pub mod Runs
pub mod Untouched
pub mod LinkCauses
pub mod Headline
pub mod Pieces
pub mod Bounds
pub mod BoundedRuns
pub mod Bounded
