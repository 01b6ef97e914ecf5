use Rattle.request_stream.proofs.HeadParts.{target_ended_at}
use Rattle.request_stream.proofs.parts.behind_target.Goals as goal

pub returns-in-Ok : goal.returns-in-Ok
returns-in-Ok c =
    target_ended_at c.args.bytes.now c.args.from c.args.at c.requires.ends c.requires.inside c.requires.space
    c.if-from-at.false c.in-Ok.ensures.cases.1
