pub mod Value
pub mod Placed
pub mod Code
pub mod Node
pub mod Falls
pub mod Reading
pub mod Passing
pub mod Slice
