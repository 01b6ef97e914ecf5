use Rattle.range_origin.proofs.Talks.{receives_on}
use Rattle.range_origin.proofs.talking.go_on.Goals as goal

pub returns-else-is_due-clause-goes_on : goal.returns-else-is_due-clause-goes_on
returns-else-is_due-clause-goes_on g c =
    receives_on g.T.Desk.sight g.D.Disk g.A.Doors c.askings_are_one_and_stay.ensures.take_more c.args.desk.now c.args.door.now
    c.receive.new.door c.args.intake.now c.receive.new.self c.receive.result c.receive.ensures.received
