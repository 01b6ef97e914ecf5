use Rattle.std.proofs.Common.{sym, subst}
use Rattle.turn_desk.specs.Rule.{TakesTurn}
use Rattle.turn_desk.proofs.turn_desk.TurnDesk.take_turn.Goals as goal

pub wait-requires-clause-waiting : goal.wait-requires-clause-waiting
wait-requires-clause-waiting g c =
    let k = c.requires.idle in
    let w = c.draw-ticket.ensures.drew k.0 k.1 k.2 k.3 in
    (k.0, k.1, k.2, w.0, w.1, w.2)

pub serve_at-answer-requires-clause-serving : goal.serve_at-answer-requires-clause-serving
serve_at-answer-requires-clause-serving g c =
    let k = c.requires.idle in
    let w = c.draw-ticket.ensures.drew k.0 k.1 k.2 k.3 in
    (k.0, w.0, k.1, k.2, c.wait.ensures.took k.0 w.0 k.1 k.2 w.1 w.2)

pub returns-clause-idle : goal.returns-clause-idle
returns-clause-idle g c =
    let k = c.requires.idle in
    let w = c.draw-ticket.ensures.drew k.0 k.1 k.2 k.3 in
    (c.serve_at-answer.ensures.served k.0 w.0 k.1 k.2 (c.wait.ensures.took k.0 w.0 k.1 k.2 w.1 w.2)).0

pub returns-clause-took : goal.returns-clause-took
returns-clause-took g c =
    let k = c.requires.idle in
    let w = c.draw-ticket.ensures.drew k.0 k.1 k.2 k.3 in
    subst (λ m. TakesTurn g.S.Served.relates c.args.self.now.given m c.args.op c.serve_at-answer.result
    c.serve_at-answer.new.seat.me) (sym k.3)
    (c.serve_at-answer.ensures.served k.0 w.0 k.1 k.2 (c.wait.ensures.took k.0 w.0 k.1 k.2 w.1 w.2)).1
