use Rattle.http_heads.proofs.HeadLawLemmas.{one_head, head_stays, no_head_stays, head_is_finished, front_is_unfinished, head_before, head_comes_whole}
use Rattle.http_heads.proofs.laws.heads_are_one_and_stay.Goals as goal

pub returns : goal.returns
returns c = record {
  one = one_head;
  stays = head_stays;
  none_stays = no_head_stays;
  finished = head_is_finished;
  front = front_is_unfinished;
  stood = head_before;
  whole = head_comes_whole;
}
