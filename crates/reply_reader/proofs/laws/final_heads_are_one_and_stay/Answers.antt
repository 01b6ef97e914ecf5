use Rattle.reply_reader.proofs.FinalHeads.{one_final_head, final_head_is_not_due, final_head_is_there, due_head_may_come, final_head_stays, no_final_head_stays, front_is_due, final_head_is_within, final_head_stood}
use Rattle.reply_reader.proofs.laws.final_heads_are_one_and_stay.Goals as goal

pub returns : goal.returns
returns c =
    let laws = c.heads_are_one_and_stay.ensures in
    record {
      one = one_final_head laws.one;
      not_due = final_head_is_not_due laws.one laws.finished;
      there = final_head_is_there laws.one;
      may_come = due_head_may_come laws.one laws.finished;
      stays = final_head_stays laws.stays laws.whole;
      none_stays = no_final_head_stays laws.stays laws.none_stays laws.whole;
      front = front_is_due laws.front laws.stood laws.whole;
      within = final_head_is_within laws.whole;
      stood = final_head_stood laws.stood;
    }
