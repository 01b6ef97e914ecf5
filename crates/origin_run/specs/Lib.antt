pub mod Doors
pub mod Folders
pub mod Sharing
