use Rattle.std.proofs.Common.{sym, subst}
use Rattle.conn_worker.specs.Hands.{link_at}
use Rattle.conn_worker.specs.Holding.{IsProbedInHand}
use Rattle.conn_worker.specs.declared.hands.ProbeEnd.{ProbeEnd}
use Rattle.conn_worker.proofs.Asking.{asked}
use Rattle.conn_worker.proofs.probing.ask_length.Goals as goal

pub returns : goal.returns
returns g c =
    let links = g.L.Links in
    let link = link_at links c.args.link.now in
    let link' = link_at links c.probe-came.new.link in
    let e = c.probe-came.ensures in
    subst (λ (end : ProbeEnd). IsProbedInHand links.tells c.args.claim c.args.url.now link link'
    (record { claim = c.args.claim; end = end; room = c.probe-came.new.room })) (sym c.end_of_probe.ensures)
    (asked links.tells c.args.claim c.args.url.now link link' c.probe-came.new.room c.probe-came.result
    (λ t. let p = e.probes t in (p.0, record { gains = p.1; says = p.2 })) e.link e.answered e.later e.may)
