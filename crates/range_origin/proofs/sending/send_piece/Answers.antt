use Rattle.range_origin.proofs.SentTexts.{ended_piece}
use Rattle.range_origin.proofs.sending.send_piece.Goals as goal

pub returns-in-Ended-clause-sent : goal.returns-in-Ended-clause-sent
returns-in-Ended-clause-sent g c =
    ended_piece g.T.Desk.sight g.D.Disk g.A.Doors c.args.name.now c.args.at c.args.len c.in-Ended.end c.args.desk.now
    c.read_piece.new.desk c.args.door.now c.requires.some c.requires.held c.in-Ended.ensures.read
