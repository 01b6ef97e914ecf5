pub mod OptionLists
pub mod Parsed
pub mod OneLine
