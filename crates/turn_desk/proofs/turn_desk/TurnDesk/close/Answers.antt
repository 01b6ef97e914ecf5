use Rattle.std.proofs.Common.{◌≡◌, map, length, rules, arith, ap}
use Rattle.turn_desk.specs.Rule.{share_of}
use Rattle.turn_desk.proofs.Ends.{closed_by, shares_length}
use Rattle.turn_desk.proofs.turn_desk.TurnDesk.close.Goals as goal

pub returns : goal.returns
returns g c =
    let n = shares_length c.args.passes.items in
    let enough = c.if-len-self.false in
    let view = ap (λ d. d.passes) c.self.view_is in
    let len : c.len.result ≡ length c.args.passes.items = search (c, rules) in
    let e = c.finish.ensures (map share_of c.args.passes.items)
    (omega (arith, n, enough, view, len)) c.gather-seat.ensures.gathered in
    (e.0, e.1, closed_by g.S.Served.relates c.args.self c.args.passes.items e.0 e.2)
