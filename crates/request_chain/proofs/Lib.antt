mod AskLemmas
mod Bounds
mod CallLemmas
mod ContentLemmas
pub mod CourseLemmas
pub mod GainLemmas
mod HeadLemmas
mod InboxLemmas
mod AnsweredLemmas
mod KeepingLemmas
mod KeptLemmas
mod KnownLemmas
pub mod Leading
mod Little
mod MovedLemmas
mod Moving
mod Once
mod ProbeLemmas
mod ReadingLemmas
mod ReceivingLemmas
mod SearchLemmas
mod SentLemmas
mod TurnLemmas
mod VainLemmas
mod VerdictLemmas
mod WholeLemmas
