pub mod Bodies
pub mod Lines
pub mod Open
pub mod Reading
pub mod Written
