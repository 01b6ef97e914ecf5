use Rattle.std.proofs.Common.{ℕ, List, Option, None, sym, ◌∙◌, subst}
use Rattle.request_stream.specs.Requests.{turned_away}
use Rattle.console_socket.specs.Upgrades.{FindsUpgrade}
use Rattle.console_http.proofs.Plain.{plain_unless}
use Rattle.console_http.proofs.Steps.{turned_off}
use Rattle.console_http.proofs.answering.refuse.Goals as goal

pub returns-in-Ok-None-clause-advances : goal.returns-in-Ok-None-clause-advances
returns-in-Ok-None-clause-advances g c =
    let found = subst (λ (o : Option ℕ). FindsUpgrade c.unread.result.now o) c.in-Ok-None.field-0-is c.in-Ok-None.ensures in
    turned_off g.S.Caller.at g.S.Session.asks g.S.Session.steps g.A.Doors c.args.refusal c.requires.away.0 c.args.session.now
    c.args.desk.now c.args.door.now c.turn_away.new.door c.args.intake.now c.turn_away.result
    c.requires.away.1 (subst (λ (bytes : List ℕ). FindsUpgrade bytes None) c.unread.ensures found)
    c.turn_away.ensures.turned_away

pub returns-clause-advances : goal.returns-clause-advances
returns-clause-advances g c =
    let intake = c.args.intake.now in
    let plain = plain_unless c.requests_are_one_and_stay.ensures.one intake.most intake.unread (turned_away c.args.refusal)
    c.requires.away.0 c.requires.away.1 (sym c.is_for_method.ensures ∙ c.if-is_for_method.false) in
    turned_off g.S.Caller.at g.S.Session.asks g.S.Session.steps g.A.Doors c.args.refusal c.requires.away.0 c.args.session.now
    c.args.desk.now c.args.door.now c.turn_away-2.new.door intake c.turn_away-2.result c.requires.away.1 plain
    c.turn_away-2.ensures.turned_away
