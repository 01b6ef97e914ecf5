use Rattle.request_chain.proofs.Bounds.{probes_receive_little, requests_receive_little}
use Rattle.request_chain.proofs.laws.requests_receive_little.Goals as goal

pub returns : goal.returns
returns c =
    let heads = c.final_heads_are_one_and_stay.ensures in
    let once = c.requests_are_read_once.ensures.once in
    record {
      requests = requests_receive_little heads.one heads.stays once c.answers_fill_what_is_asked.ensures.fill;
      probes = probes_receive_little heads.one heads.stays once;
    }
