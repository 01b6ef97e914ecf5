pub mod Answers
pub mod Fills
pub mod HeadLaws
pub mod Heads
pub mod Losses
pub mod Sizes
pub mod Slices
