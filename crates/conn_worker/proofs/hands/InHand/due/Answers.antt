use Rattle.std.proofs.Common.{sym, subst}
use Rattle.conn_worker.specs.Holding.{MakesTurn}
use Rattle.conn_worker.specs.declared.hands.InHand.{InHand}
use Rattle.conn_worker.proofs.InHands.{any_probe_due, fetch_due}
use Rattle.conn_worker.proofs.hands.InHand.due.Goals as goal

pub returns-in-Fetches-clause-made : goal.returns-in-Fetches-clause-made
returns-in-Fetches-clause-made c =
    let op = c.due.result.0 in
    let w = c.due.result.1 in
    subst (λ (h : InHand). MakesTurn c.args.worker c.args.now h op w) (sym c.in-Fetches.is)
    (fetch_due c.args.worker c.args.now c.in-Fetches.fetch op w c.due.ensures.made)

pub returns-in-Probes-clause-made : goal.returns-in-Probes-clause-made
returns-in-Probes-clause-made c =
    let op = c.due-in-Probes.result.0 in
    let w = c.due-in-Probes.result.1 in
    subst (λ (h : InHand). MakesTurn c.args.worker c.args.now h op w) (sym c.in-Probes.is)
    (any_probe_due c.args.worker c.args.now c.in-Probes.probe op w c.due-in-Probes.ensures.made)
