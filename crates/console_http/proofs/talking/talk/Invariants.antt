use Rattle.console_http.proofs.Steps.{IsGoing}
use Rattle.console_http.specs.Readings.{console_at}
use Rattle.console_http.proofs.talking.talk.Given as goal

abbrev pub invariant-loop : goal.invariant-loop
invariant-loop g l = IsGoing g.S.Caller.at g.S.Session.asks g.S.Session.steps g.A.Doors (console_at l.fn.session l.fn.desk l.fn.door l.fn.intake)
    (console_at l.session l.desk l.door l.intake)
