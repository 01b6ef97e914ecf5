mod Losing
mod Reading
mod Sizing
pub mod Telling
