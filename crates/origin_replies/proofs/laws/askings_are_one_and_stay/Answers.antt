use Rattle.origin_replies.proofs.Streams.{one_asking, one_list, go_on, take_more, end, end_with_last}
use Rattle.origin_replies.proofs.laws.askings_are_one_and_stay.Goals as goal

pub returns : goal.returns
returns c =
    let heads = c.ask_heads_are_one_and_stay.ensures in
    record {
      one = one_asking heads.one;
      one_list = one_list heads.one;
      go_on = go_on;
      take_more = take_more heads.stays heads.none_stays heads.whole;
      end = end;
      end_with_last = end_with_last;
    }
