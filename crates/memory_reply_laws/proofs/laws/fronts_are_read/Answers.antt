use Rattle.memory_reply_laws.proofs.Fronts.{fronts_are_read, head_fronts_are_read}
use Rattle.memory_reply_laws.proofs.laws.fronts_are_read.Goals as goal

pub returns : goal.returns
returns c = record {
  whole = fronts_are_read c.heads_are_one_and_stay.ensures.whole c.heads_are_one_and_stay.ensures.stood c.pieces_join.ensures.content c.pieces_join.ensures.wrong;
  head = head_fronts_are_read c.heads_are_one_and_stay.ensures.whole c.heads_are_one_and_stay.ensures.stood;
}
