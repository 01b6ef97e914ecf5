pub mod Spans
pub mod Names
pub mod Segments
pub mod Replies
pub mod Aims
pub mod Askings
pub mod Classified
