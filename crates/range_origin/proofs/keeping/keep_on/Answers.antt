use Rattle.std.proofs.Common.{sym}
use Rattle.range_origin.specs.Talking.{origin_at}
use Rattle.range_origin.proofs.Doors.{kept_on}
use Rattle.range_origin.proofs.keeping.keep_on.Goals as goal

pub returns-clause-kept : goal.returns-clause-kept
returns-clause-kept g c =
    kept_on g.T.Desk.sight g.D.Disk g.A.Doors c.turns_add_up.ensures.more c.turns_add_up.ensures.none c.let_in-visited.result
    (origin_at c.args.desk.now c.args.door.now) (origin_at c.let_in-visited.new.desk c.let_in-visited.new.door) c.args.starved.now
    c.saturating_add.result c.end_at.result c.let_in-visited.ensures.visited
    (rw (sym c.starved_at.ensures) c.saturating_add.ensures) c.end_at.ensures
