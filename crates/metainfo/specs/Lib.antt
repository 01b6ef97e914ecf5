pub mod Info
pub mod Jobs
pub mod Kept
pub mod Refusals
pub mod Rules
pub mod Tests
pub mod Urls
