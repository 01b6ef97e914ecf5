pub mod Layers
pub mod Refusals
pub mod Rules
pub mod Sound
pub mod Trees
pub mod Walks
