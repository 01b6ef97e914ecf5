pub mod Heard
pub mod Probing
pub mod Reads
pub mod Rooms
pub mod Stages
pub mod Talks
