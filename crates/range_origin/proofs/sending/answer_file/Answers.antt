use Rattle.std.proofs.Common.{◌≡◌, rules, Some}
use Rattle.range_origin.specs.declared.shelf.Told.TheVariants.{Length}
use Rattle.range_origin.specs.Talking.{origin_at}
use Rattle.range_origin.proofs.SentTexts.{answers_failed, answers_sized, answers_starved}
use Rattle.range_origin.proofs.sending.answer_file.Goals as goal

pub returns-in-Length-Some-clause-answers : goal.returns-in-Length-Some-clause-answers
returns-in-Length-Some-clause-answers g c =
    let is : c.look_up.result ≡ Length (Some c.in-Length-Some.total) = search rules in
    answers_sized g.T.Desk.sight g.D.Disk g.A.Doors c.turns_add_up.ensures.more c.args.head.now c.args.name.now
    c.in-Length-Some.total c.answer_sized.result c.look_up.result c.args.desk.now c.look_up.new.desk c.args.door.now
    (origin_at c.answer_sized.new.desk c.answer_sized.new.door) c.look_up.ensures.looked is c.answer_sized.ensures.sent

pub returns-in-Fault-clause-answers : goal.returns-in-Fault-clause-answers
returns-in-Fault-clause-answers g c =
    answers_failed g.T.Desk.sight g.D.Disk g.A.Doors c.args.head.now c.args.name.now c.send_head-in-Fault.result
    c.look_up.result c.in-Fault.count c.args.desk.now c.look_up.new.desk c.args.door.now c.send_head-in-Fault.new.door
    c.look_up.ensures.looked c.in-Fault.is c.send_head-in-Fault.ensures.sent

pub returns-in-NoMemory-clause-answers : goal.returns-in-NoMemory-clause-answers
returns-in-NoMemory-clause-answers g c =
    answers_starved g.T.Desk.sight g.D.Disk g.A.Doors c.args.head.now c.args.name.now c.look_up.result c.args.desk.now
    c.look_up.new.desk c.args.door.now c.look_up.ensures.looked c.in-NoMemory.is
