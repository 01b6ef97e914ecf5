use Rattle.console_http.proofs.Visiting.{IsKept}
use Rattle.console_http.specs.Readings.{door_at}
use Rattle.console_http.proofs.keeping.keep_with.Given as goal

abbrev pub invariant-loop : goal.invariant-loop
invariant-loop g l =
    IsKept g.S.Caller.at g.S.Session.asks g.S.Session.steps g.A.Doors l.fn.intake.most (door_at l.fn.session l.fn.desk l.fn.door)
    (door_at l.session l.desk l.door) l.starved l.intake.most
