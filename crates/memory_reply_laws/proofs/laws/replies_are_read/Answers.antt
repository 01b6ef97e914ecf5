use Rattle.memory_reply_laws.proofs.Bodies.{told_content_is_plain}
use Rattle.memory_reply_laws.proofs.Parts.{part_is_read, chunked_part_is_read}
use Rattle.memory_reply_laws.proofs.Whole.{whole_is_read, stream_is_read, moved_is_read, not_found_is_read, empty_is_read}
use Rattle.memory_reply_laws.proofs.laws.replies_are_read.Goals as goal

pub returns : goal.returns
returns c = record {
  part = part_is_read c.numbers_and_ranges_are_read.ensures.numbers c.numbers_and_ranges_are_read.ensures.ranges;
  chunked_part = chunked_part_is_read c.chunks_are_read.ensures.chunk c.chunks_are_read.ensures.last c.numbers_and_ranges_are_read.ensures.ranges;
  whole = whole_is_read c.numbers_and_ranges_are_read.ensures.numbers;
  stream = stream_is_read;
  moved = moved_is_read;
  not_found = not_found_is_read;
  empty = empty_is_read c.numbers_and_ranges_are_read.ensures.ranges;
  plain = told_content_is_plain;
}
