mod Growing
mod SentTexts
mod Serving
pub mod Turning
mod Visiting
mod Talks
mod Doors
mod Hearing
