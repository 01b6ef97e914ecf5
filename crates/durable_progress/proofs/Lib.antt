pub mod Beside
pub mod Holding
pub mod Listings
pub mod Promised
pub mod Steps
