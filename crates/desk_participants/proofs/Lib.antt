pub mod Seating
pub mod Uses
pub mod Crosses
pub mod Parts
