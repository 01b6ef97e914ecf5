pub mod Seats
pub mod Uses
pub mod Both
