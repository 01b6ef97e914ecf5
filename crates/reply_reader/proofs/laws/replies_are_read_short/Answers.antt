use Rattle.reply_reader.proofs.Sizes.{final_heads_are_short, heads_read_are_not_final, heads_read_are_short, nothing_is_no_head, due_slices_are_short}
use Rattle.reply_reader.proofs.laws.replies_are_read_short.Goals as goal

pub returns : goal.returns
returns c = record {
  final_head = final_heads_are_short;
  heads = heads_read_are_short;
  not_final = heads_read_are_not_final c.heads_are_one_and_stay.ensures.one;
  nothing = nothing_is_no_head;
  slices = due_slices_are_short;
}
