use Rattle.std.proofs.Common.{refl}
use Rattle.range_origin.specs.Talking.{origin_at}
use Rattle.range_origin.proofs.Doors.{keeps_all, keeps_nobody}
use Rattle.range_origin.proofs.keeping.keep_origin.Goals as goal

pub returns-clause-keeps : goal.returns-clause-keeps
returns-clause-keeps g c =
    keeps_all g.T.Desk.sight g.D.Disk g.A.Doors c.keep_with-end.result (origin_at c.args.desk.now c.args.door.now)
    c.args.starved.now 0 (origin_at c.keep_with-end.new.desk c.keep_with-end.new.door) c.keep_with-end.new.starved
    c.saturating_add-2.result c.keep_with-end.ensures.kept refl c.saturating_add-2.ensures

pub returns-in_default-clause-keeps : goal.returns-in_default-clause-keeps
returns-in_default-clause-keeps g c =
    keeps_nobody g.T.Desk.sight g.D.Disk g.A.Doors c.turns_add_up.ensures.none c.args.desk.now c.args.door.now c.args.starved.now
    c.saturating_add.result c.saturating_add.ensures
