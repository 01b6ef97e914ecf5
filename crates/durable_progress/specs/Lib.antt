pub mod Held
pub mod Promises
pub mod HeldLaws
pub mod HeldSteps
pub mod PromiseLaws
pub mod SharingLaws
