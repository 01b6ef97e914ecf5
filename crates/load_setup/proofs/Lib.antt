pub mod Groups
pub mod Lines
pub mod LoadLine
pub mod Numbers
pub mod RunLine
pub mod Said
pub mod Texts
