pub mod Turned
pub mod Once
pub mod Going
pub mod Idle
pub mod Worked
pub mod Gone
pub mod Faults
