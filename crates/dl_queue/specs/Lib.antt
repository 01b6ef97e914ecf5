pub mod Endings
pub mod Lists
pub mod Places
pub mod Rising
pub mod Calls
pub mod Held
pub mod Named
pub mod NextUp
