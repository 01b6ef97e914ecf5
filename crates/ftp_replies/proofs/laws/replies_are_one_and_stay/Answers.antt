use Rattle.ftp_replies.proofs.LawLemmas.{one_reply, reply_stays, no_reply_stays, front_is_due, reply_comes_whole, reply_is_short}
use Rattle.ftp_replies.proofs.laws.replies_are_one_and_stay.Goals as goal

pub returns : goal.returns
returns c = record {
  one = one_reply;
  stays = reply_stays;
  none_stays = no_reply_stays;
  front = front_is_due;
  whole = reply_comes_whole;
  short = reply_is_short;
}
