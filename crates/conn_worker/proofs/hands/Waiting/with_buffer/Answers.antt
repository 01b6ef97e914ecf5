use Rattle.std.proofs.Common.{sym, subst}
use Rattle.conn_worker.specs.Holding.{StaysWaiting}
use Rattle.conn_worker.specs.declared.hands.Waiting.{Waiting}
use Rattle.conn_worker.specs.declared.hands.Waiting.TheVariants.{Delivers}
use Rattle.conn_worker.proofs.InHands.{buffered}
use Rattle.conn_worker.proofs.hands.Waiting.with_buffer.Goals as goal

pub returns-in-Delivers : goal.returns-in-Delivers
returns-in-Delivers c =
    let e = c.give_back.ensures in
    let o = c.in-Delivers.open_fetch in
    let last = c.in-Delivers.last in
    let fetch = c.give_back.new.self in
    subst (λ (w : Waiting). StaysWaiting w (Delivers (record { claim = o.claim; fetch = fetch; left = o.left }) last))
    (sym c.in-Delivers.is)
    (buffered o fetch last
    (record { fetch = e.fetch; may = e.may; plan = e.plan; rest = e.rest; ready = e.ready; lost = e.lost }))
