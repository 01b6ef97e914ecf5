use Rattle.memory_reply_laws.proofs.Spoiled.{flipped_is_true, bare_is_not_flipped, cut_is_front}
use Rattle.memory_reply_laws.proofs.Statuses.{status_is_read, other_status_is_no_head, status_is_read_or_none, nothing_is_unfinished}
use Rattle.memory_reply_laws.proofs.laws.bad_replies_are_read.Goals as goal

pub returns : goal.returns
returns c = record {
  flipped = flipped_is_true;
  bare = bare_is_not_flipped;
  cut = cut_is_front;
  status = status_is_read c.numbers_and_ranges_are_read.ensures.numbers;
  other_status = other_status_is_no_head;
  nothing = nothing_is_unfinished c.numbers_and_ranges_are_read.ensures.numbers c.heads_are_one_and_stay.ensures.whole;
  any_status = status_is_read_or_none c.numbers_and_ranges_are_read.ensures.numbers;
}
