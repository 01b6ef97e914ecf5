use Rattle.std.proofs.Common.{refl}
use Rattle.origin_replies.specs.Askings.{bad}
use Rattle.std.specs.Prelude.{None, Some}
use Rattle.range_origin.proofs.Talks.{breaks_on, hangs_up_on, sends_refusal}
use Rattle.range_origin.proofs.talking.turn_away.Goals as goal

pub returns-in-Some-clause-goes_on : goal.returns-in-Some-clause-goes_on
returns-in-Some-clause-goes_on g c =
    breaks_on g.T.Desk.sight g.D.Disk g.A.Doors c.turns_add_up.ensures.more c.args.desk.now c.args.desk.now c.args.door.now
    c.send_head.new.door c.args.intake.now c.args.intake.now bad 0 c.in-Some.end (c.requires.bad, refl)
    (sends_refusal g.T.Desk.sight g.D.Disk g.A.Doors c.turns_add_up.ensures.none (Some c.in-Some.end) c.args.desk.now c.args.door.now
    c.send_head.new.door c.in-Some.ensures.sent)

pub returns-in-None-clause-goes_on : goal.returns-in-None-clause-goes_on
returns-in-None-clause-goes_on g c =
    hangs_up_on g.T.Desk.sight g.D.Disk g.A.Doors c.askings_are_one_and_stay.ensures.end_with_last c.turns_add_up.ensures.more
    c.args.desk.now c.args.desk.now c.args.door.now c.send_head.new.door c.args.intake.now c.args.intake.now bad 0
    (c.requires.bad, refl) refl
    (sends_refusal g.T.Desk.sight g.D.Disk g.A.Doors c.turns_add_up.ensures.none None c.args.desk.now c.args.door.now
    c.send_head.new.door c.in-None.ensures.sent)
