use Rattle.origin_replies.specs.Replies.{head_of_reply}
use Rattle.range_origin.proofs.SentTexts.{sent_none}
use Rattle.range_origin.proofs.sending.send_head.Goals as goal

pub returns-in-Err-clause-sent : goal.returns-in-Err-clause-sent
returns-in-Err-clause-sent g c = sent_none g.A.Doors (head_of_reply c.args.reply) c.args.door.now
