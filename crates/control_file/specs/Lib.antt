pub mod Laws
pub mod Names
pub mod Reading
pub mod Spelling
pub mod Unread
pub mod Wants
