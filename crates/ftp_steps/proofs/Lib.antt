pub mod AnswerLemmas
pub mod CommandLemmas
pub mod FollowLemmas
pub mod TurnLemmas
