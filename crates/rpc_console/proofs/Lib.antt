mod Comparing
mod GidKeys
mod LawfulAskings
mod OptionLemmas
mod UsableUris
mod Values
