mod AddressLemmas
mod ClosingLemmas
mod FrontLemmas
mod LastLemmas
mod LawLemmas
mod LineLemmas
mod ReplyLemmas
