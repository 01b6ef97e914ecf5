pub mod Addresses
pub mod Closings
pub mod Fronts
pub mod LineEnds
pub mod Lines
pub mod Replies
pub mod ReplyLaws
pub mod Sizes
