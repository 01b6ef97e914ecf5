pub mod Answers
pub mod BadReplies
pub mod Reading
pub mod Replies
