use Rattle.memory_serving_laws.proofs.Paid.{bad_answers_pay}
use Rattle.memory_serving_laws.proofs.laws.bad_answers_pay.Goals as goal

pub returns : goal.returns
returns c = bad_answers_pay (record {
  once = c.streams_have_one_answer.ensures.once;
  stay = c.streams_have_one_answer.ensures.stay;
  grow = c.streams_have_one_answer.ensures.grow;
  fill = c.answers_fill_what_is_asked.ensures.fill;
  heads = record {
    one = c.final_heads_are_one_and_stay.ensures.one;
    not_due = c.final_heads_are_one_and_stay.ensures.not_due;
    there = c.final_heads_are_one_and_stay.ensures.there;
    stays = c.final_heads_are_one_and_stay.ensures.stays;
    status = c.bad_replies_are_read.ensures.any_status;
    nothing = c.bad_replies_are_read.ensures.nothing;
  };
  part = c.replies_are_read.ensures.part;
  chunked_part = c.replies_are_read.ensures.chunked_part;
  whole = c.replies_are_read.ensures.whole;
  stream = c.replies_are_read.ensures.stream;
  alike = c.requests_are_answered.ensures.alike;
  answered = c.requests_are_answered.ensures.answered;
  flipped = c.bad_replies_are_read.ensures.flipped;
  bare = c.bad_replies_are_read.ensures.bare;
  cut = c.bad_replies_are_read.ensures.cut;
}) c.fetched_bytes_fit_their_parts.ensures.own
