use Rattle.request_stream.specs.Requests.{served}
use Rattle.console_http.specs.Readings.{console_at, door_at}
use Rattle.console_http.proofs.Steps.{answers_on, begins, is_answered, is_begun, last_answer}
use Rattle.console_http.proofs.answering.serve_between.Goals as goal

pub returns-then-last-clause-advances : goal.returns-then-last-clause-advances
returns-then-last-clause-advances g c =
    let a = console_at c.args.session.now c.args.desk.now c.args.door.now c.args.intake.now in
    let b = console_at c.respond.new.session c.respond.new.desk c.respond.new.door c.take_off.new.self in
    let responded = c.in-Ok.ensures.responded in
    let body = c.between.result.now in
    last_answer g.S.Caller.at g.S.Session.asks g.S.Session.steps g.A.Doors (served body c.args.last) responded.0 a b
    (is_answered g.S.Caller.at g.S.Session.asks g.S.Session.steps g.A.Doors c.args.from c.args.used c.args.last body responded.0 a b c.requires.between c.requires.plain
    c.between.ensures responded.1 c.take_off.ensures)
    c.if-last.true

pub returns-else-last-clause-advances : goal.returns-else-last-clause-advances
returns-else-last-clause-advances g c =
    let a = console_at c.args.session.now c.args.desk.now c.args.door.now c.args.intake.now in
    let b = console_at c.respond.new.session c.respond.new.desk c.respond.new.door c.take_off.new.self in
    let responded = c.in-Ok.ensures.responded in
    let body = c.between.result.now in
    answers_on g.S.Caller.at g.S.Session.asks g.S.Session.steps g.A.Doors (served body c.args.last) responded.0 a b
    (is_answered g.S.Caller.at g.S.Session.asks g.S.Session.steps g.A.Doors c.args.from c.args.used c.args.last body responded.0 a b c.requires.between c.requires.plain
    c.between.ensures responded.1 c.take_off.ensures)
    c.if-last.false

pub returns-in-Err-clause-advances : goal.returns-in-Err-clause-advances
returns-in-Err-clause-advances g c =
    let a = console_at c.args.session.now c.args.desk.now c.args.door.now c.args.intake.now in
    let b = door_at c.respond.new.session c.respond.new.desk c.respond.new.door in
    let begun = c.in-Err.ensures.responded in
    let body = c.between.result.now in
    rw c.end_by_error.ensures
    (begins g.S.Caller.at g.S.Session.asks g.S.Session.steps g.A.Doors (served body c.args.last) begun.0 begun.1 _ a b
    (is_begun g.S.Caller.at g.S.Session.asks g.S.Session.steps g.A.Doors c.args.from c.args.used c.args.last body begun.0 begun.1 _ a b
    c.requires.between c.requires.plain c.between.ensures begun.2))
