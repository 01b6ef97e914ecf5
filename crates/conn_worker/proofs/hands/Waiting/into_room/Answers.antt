use Rattle.std.proofs.Common.{sym, subst}
use Rattle.conn_worker.specs.Holding.{WaitsWithRoom}
use Rattle.conn_worker.specs.declared.hands.Waiting.{Waiting}
use Rattle.conn_worker.proofs.InHands.{asks_room, delivers_room}
use Rattle.conn_worker.proofs.hands.Waiting.into_room.Goals as goal

pub returns-in-Delivers : goal.returns-in-Delivers
returns-in-Delivers c =
    let room = c.into_room.result in
    subst (λ (w : Waiting). WaitsWithRoom w room) (sym c.in-Delivers.is)
    (delivers_room c.in-Delivers.open_fetch c.in-Delivers.last room c.into_room.ensures.may)

pub returns-in-Asks : goal.returns-in-Asks
returns-in-Asks c =
    let room = c.into_room-in-Asks.result in
    subst (λ (w : Waiting). WaitsWithRoom w room) (sym c.in-Asks.is)
    (asks_room c.in-Asks.open_fetch room c.into_room-in-Asks.ensures.may)
