pub mod Pathnames
pub mod Places
