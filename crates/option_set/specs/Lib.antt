pub mod Table
pub mod Rows
pub mod Numbers
pub mod Files
pub mod Settings
pub mod Assignments
pub mod Values
pub mod Laws
