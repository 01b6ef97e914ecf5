use Rattle.console_http.proofs.Waiting.{run_ended, waited}
use Rattle.console_http.proofs.talking.wait.Goals as goal

pub returns-then-ask_if_due-clause-goes_on : goal.returns-then-ask_if_due-clause-goes_on
returns-then-ask_if_due-clause-goes_on g c =
    run_ended g.S.Caller.at g.S.Session.asks g.S.Session.steps g.A.Doors c.args.session.now c.args.desk.now c.ask_if_due.new.session
    c.ask_if_due.new.desk c.args.intake.now c.ask_if_due.new.intake c.requires.unfinished.none c.args.door.now
    (rw c.if-ask_if_due.true at c.ask_if_due.ensures.asks)

pub returns-clause-goes_on : goal.returns-clause-goes_on
returns-clause-goes_on g c =
    waited g.S.Caller.at g.S.Session.asks g.S.Session.steps g.A.Doors c.args.session.now c.args.desk.now c.ask_if_due.new.session
    c.ask_if_due.new.desk c.args.intake.now c.ask_if_due.new.intake c.requires.unfinished.none c.args.door.now
    c.receive.new.door c.receive.new.self c.receive.result (rw c.if-ask_if_due.false at c.ask_if_due.ensures.asks)
    c.receive.ensures.same c.receive.ensures.received
