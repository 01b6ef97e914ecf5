pub mod Participants
pub mod Together
pub mod RunsTogether
pub mod LinksLeft
pub mod DoorsCauses
