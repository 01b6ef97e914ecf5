pub mod Requests
pub mod Streams
pub mod StreamLaws
pub mod Next
pub mod HeadParts
pub mod Progress
pub mod Responses
