pub mod Marks
pub mod Choice
pub mod Laws
pub mod Book
pub mod Places
pub mod Kept
