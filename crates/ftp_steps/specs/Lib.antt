pub mod Answers
pub mod AnswerLaws
pub mod Commands
pub mod Meanings
pub mod StepFacts
pub mod Turns
