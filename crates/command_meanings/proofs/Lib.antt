pub mod NoLine
pub mod WordsFound
