use Rattle.std.specs.Prelude.{◌≡◌, None}
use Rattle.range_origin.specs.Keeping.{IsKept}
use Rattle.range_origin.specs.Talking.{origin_at}
use Rattle.range_origin.proofs.keeping.keep_with.Given as goal

abbrev pub invariant-loop : goal.invariant-loop
invariant-loop g l =
    IsKept g.T.Desk.sight g.D.Disk g.A.Doors None (origin_at l.fn.desk l.fn.door) l.fn.starved (origin_at l.desk l.door) l.starved
    × (g.T.Desk.desk_id l.desk ≡ g.T.Desk.desk_id l.fn.desk)
