pub mod Shelves
pub mod Ends
pub mod Talking
pub mod Answers
pub mod Visits
pub mod Conversations
pub mod Keeping
