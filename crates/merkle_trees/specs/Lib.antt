pub mod Leaves
pub mod Trees
pub mod Places
pub mod Laws
