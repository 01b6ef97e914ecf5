pub mod Paid
pub mod Holding
pub mod Served
