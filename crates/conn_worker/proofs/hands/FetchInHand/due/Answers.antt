use Rattle.std.proofs.Common.{sym, subst}
use Rattle.engine_turns.specs.declared.operations.Operation.TheVariants as operation
use Rattle.conn_worker.specs.Holding.{MakesFetchTurn}
use Rattle.conn_worker.specs.declared.hands.Gain.{Gain}
use Rattle.conn_worker.specs.declared.hands.Waiting.TheVariants.{Free}
use Rattle.conn_worker.proofs.InHands.{lost_due, starved_due}
use Rattle.conn_worker.proofs.hands.FetchInHand.due.Goals as goal

pub returns-in-Lost-clause-made : goal.returns-in-Lost-clause-made
returns-in-Lost-clause-made c =
    let o = c.args.self.open_fetch in
    let room = c.into_room.result in
    subst (λ (g : Gain). MakesFetchTurn c.args.worker c.args.now (record { open_fetch = o; gain = g })
    (operation.Lose o.claim c.in-Lost.mark c.args.now) (Free room)) (sym c.in-Lost.is)
    (lost_due c.args.worker c.args.now o c.in-Lost.loss c.in-Lost.mark room c.into_room.ensures.may)

pub returns-in-Starved-clause-made : goal.returns-in-Starved-clause-made
returns-in-Starved-clause-made c =
    let o = c.args.self.open_fetch in
    let room = c.into_room-in-Starved.result in
    subst (λ (g : Gain). MakesFetchTurn c.args.worker c.args.now (record { open_fetch = o; gain = g })
    (operation.Next c.args.worker c.args.now) (Free room)) (sym c.in-Starved.is)
    (starved_due c.args.worker c.args.now o room c.into_room-in-Starved.ensures.may)
