mod Choosing
mod Placing
mod PlainOutcomes
