pub mod Command
pub mod Sources
pub mod Lines
pub mod Found
pub mod LineLaws
