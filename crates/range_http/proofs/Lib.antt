mod EmptyLineLemmas
mod FramingLemmas
mod NumberLemmas
mod RangeLemmas
mod RequestLemmas
mod TableLemmas
