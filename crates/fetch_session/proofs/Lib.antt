mod Counting
mod Cuts
mod PartSteps
mod Ready
mod Stepping
mod Taking
