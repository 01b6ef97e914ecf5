use Rattle.std.proofs.Common.{◌∙◌, sym}
use Rattle.range_origin.proofs.Talks.{ends_on, settles, starves_on}
use Rattle.range_origin.proofs.talking.look.Goals as goal

pub settle-requires : goal.settle-requires
settle-requires g c = (c.next.ensures.more c.in-More.is).short

pub returns-then-is_over-clause-goes_on : goal.returns-then-is_over-clause-goes_on
returns-then-is_over-clause-goes_on g c =
    ends_on g.T.Desk.sight g.D.Disk g.A.Doors c.askings_are_one_and_stay.ensures.end c.args.desk.now c.args.door.now
    c.args.intake.now c.settle.new.self (c.next.ensures.more c.in-More.is) c.settle.ensures
    (sym c.is_over.ensures ∙ c.if-is_over.true)

pub returns-else-is_over-clause-goes_on : goal.returns-else-is_over-clause-goes_on
returns-else-is_over-clause-goes_on g c =
    settles g.T.Desk.sight g.D.Disk g.A.Doors c.args.desk.now c.args.door.now c.args.intake.now c.settle.new.self
    c.settle.ensures

pub returns-in-NoMemory-clause-goes_on : goal.returns-in-NoMemory-clause-goes_on
returns-in-NoMemory-clause-goes_on g c =
    starves_on g.T.Desk.sight g.D.Disk g.A.Doors c.args.desk.now c.args.door.now c.args.intake.now
