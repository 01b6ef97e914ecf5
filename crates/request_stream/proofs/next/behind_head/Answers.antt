use Rattle.std.proofs.Common.{inl}
use Rattle.request_stream.proofs.OneRequest.{lasts_until, unfinished_by_len}
use Rattle.request_stream.proofs.next.behind_head.Goals as goal

pub returns-else-used-bytes-clause-next : goal.returns-else-used-bytes-clause-next
returns-else-used-bytes-clause-next c =
    unfinished_by_len c.ask_heads_are_one_and_stay.ensures.one c.args.most c.args.bytes.now c.args.head.now c.args.size c.in-Ok.len
    c.requires.begins c.in-Ok.ensures c.if-used-bytes.false

pub returns-else-used-bytes-clause-read : goal.returns-else-used-bytes-clause-read
returns-else-used-bytes-clause-read c =
    lasts_until c.ask_heads_are_one_and_stay.ensures.one c.ask_heads_are_one_and_stay.ensures.stays c.args.most c.args.bytes.now
    c.args.head.now c.args.size c.in-Ok.len c.requires.begins c.in-Ok.ensures

pub returns-in-Err-clause-next : goal.returns-in-Err-clause-next
returns-in-Err-clause-next c =
    (c.args.size, inl (record { head = c.args.head.now; begins = c.requires.begins; refused = c.in-Err.ensures }))
