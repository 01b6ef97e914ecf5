use Rattle.std.proofs.Common.{◌≡◌, rules}
use Rattle.origin_replies.specs.Aims.{aim_of}
use Rattle.origin_replies.specs.declared.aim.Aim.TheVariants.{Refused}
use Rattle.range_origin.proofs.SentTexts.{answers_none_read, answers_refused}
use Rattle.range_origin.proofs.sending.answer.Goals as goal

pub returns-in-Ok-Refused-clause-answers : goal.returns-in-Ok-Refused-clause-answers
returns-in-Ok-Refused-clause-answers g c =
    let is : aim_of c.args.head.now ≡ Refused c.in-Ok-Refused.reply = search rules in
    answers_refused g.T.Desk.sight g.D.Disk g.A.Doors c.turns_add_up.ensures.none c.args.head.now c.in-Ok-Refused.reply
    c.send_head.result c.args.desk.now c.args.door.now c.send_head.new.door is c.send_head.ensures.sent

pub returns-in-Err-clause-answers : goal.returns-in-Err-clause-answers
returns-in-Err-clause-answers g c =
    answers_none_read g.T.Desk.sight g.D.Disk g.A.Doors c.turns_add_up.ensures.none c.args.head.now c.args.desk.now c.args.door.now
