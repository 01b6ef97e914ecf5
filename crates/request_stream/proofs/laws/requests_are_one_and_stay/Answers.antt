use Rattle.request_stream.proofs.OneRequest.{progress_stays, request_one, request_stays, request_within}
use Rattle.request_stream.proofs.Streams.{one_list, front_goes_on, front_takes_more, front_ends, front_ends_with_last}
use Rattle.request_stream.proofs.laws.requests_are_one_and_stay.Goals as goal

pub returns : goal.returns
returns c =
    let heads = c.ask_heads_are_one_and_stay.ensures in
    record {
      one = request_one heads.one;
      stays = request_stays heads.stays heads.none_stays;
      within = request_within heads.whole;
      one_list = one_list heads.one;
      goes_on = front_goes_on;
      takes_more = front_takes_more heads.stays heads.none_stays heads.whole;
      ends = front_ends;
      ends_with_last = front_ends_with_last;
      progress = progress_stays;
    }
