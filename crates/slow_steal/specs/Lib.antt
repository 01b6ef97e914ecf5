pub mod Theft
