pub mod Alike
pub mod Charges
pub mod Laws
pub mod Leads
pub mod Serving
pub mod Sizes
