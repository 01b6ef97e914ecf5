pub mod DoorLaws
pub mod Doors
pub mod MemDoors
