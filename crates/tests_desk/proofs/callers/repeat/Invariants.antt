use Rattle.std.proofs.Common.{◌≡◌}
use Rattle.tests_desk.specs.Callers.{TookSame}
use Rattle.tests_desk.proofs.callers.repeat.Given as goal

-- the turns so far
abbrev pub invariant-loop : goal.invariant-loop
invariant-loop g l = TookSame g.S.Served.relates (g.T.Desk.sight l.fn.desk) l.op l.counter (g.T.Desk.sight l.desk)
    × (g.T.Desk.desk_id l.desk ≡ g.T.Desk.desk_id l.fn.desk)
