use Rattle.std.proofs.Common.{ap, sym, subst, arith}
use Rattle.fetch_session.specs.Fetches.{lost_of}
use Rattle.conn_worker.specs.Hands.{link_at}
use Rattle.conn_worker.specs.Holding.{IsReadInHand}
use Rattle.conn_worker.specs.declared.hands.Gain.{Gain}
use Rattle.conn_worker.proofs.Steps.{Calls, held_over, lost_since, lost_step, none_held, none_is_held, read_step, ready_step}
use Rattle.conn_worker.proofs.fetching.read.Goals as goal

pub returns-then-got-eq0 : goal.returns-then-got-eq0
returns-then-got-eq0 g c f m =
    let links = g.L.Links in
    let o = c.args.open_fetch in
    let new = c.step.new.self in
    let link = link_at links c.args.link.now in
    let link' = link_at links c.step.new.link in
    let e = c.step.ensures in
    let none = none_held (lost_of o.fetch) c.step.result c.in-Ok.got e.held c.in-Ok.is in
    let calls : Calls links.tells f.since.faults o.fetch new link link' = record {
      plan = e.plan;
      rest = e.rest;
      may = e.may;
      lost = lost_since (lost_of o.fetch) (lost_of new) f.since.faults link.faults link'.faults
          m.is.carried.used.later e.cause (none_is_held (lost_of o.fetch) (lost_of new) link.faults link'.faults none) m.is.lost;
      later = e.later;
      answered = e.answered;
    } in
    read_step links.tells o f new c.in-Ok.got c.args.allow link link' c.requires.within m calls c.in-Ok.ensures.ready c.if-got-eq0.true
    c.in-Ok.ensures.done c.in-Ok.ensures.held_back
    (λ t. c.in-Ok.ensures.reads t f.job f.since.state.exchanges f.used f.handed (m.is.fetch t)
    (m.is.carried.used.gained t))

pub returns-else-got-eq0 : goal.returns-else-got-eq0
returns-else-got-eq0 g c f m =
    let links = g.L.Links in
    let o = c.args.open_fetch in
    let mid = c.step.new.self in
    let link = link_at links c.args.link.now in
    let link' = link_at links c.step.new.link in
    let e = c.step.ensures in
    let none = none_held (lost_of o.fetch) c.step.result c.in-Ok.got e.held c.in-Ok.is in
    let calls : Calls links.tells f.since.faults o.fetch mid link link' = record {
      plan = e.plan;
      rest = e.rest;
      may = e.may;
      lost = lost_since (lost_of o.fetch) (lost_of mid) f.since.faults link.faults link'.faults
          m.is.carried.used.later e.cause (none_is_held (lost_of o.fetch) (lost_of mid) link.faults link'.faults none) m.is.lost;
      later = e.later;
      answered = e.answered;
    } in
    let t = c.take_blocks-bytes.ensures in
    let some = c.if-got-eq0.false in
    ready_step links.tells o f mid c.take_blocks-bytes.new.self c.in-Ok.got c.args.allow c.take_blocks-bytes.result link link'
    c.handed_bytes_are_fetched.ensures c.requires.within m calls
    (record {
      plan = t.plan;
      first = t.rest_first;
      count = t.rest_count;
      place = t.place;
      none_ready = t.none_ready;
      may = λ told. t.may link'.state (e.may told);
      lost = t.lost;
      fetch = t.takes;
    })
    c.in-Ok.ensures.ready (omega (arith, some)) e.few e.within c.in-Ok.ensures.done t.len c.in-Ok.ensures.held_back
    (λ told. c.in-Ok.ensures.reads told f.job f.since.state.exchanges f.used f.handed (m.is.fetch told)
    (m.is.carried.used.gained told))

pub returns-in-Err : goal.returns-in-Err
returns-in-Err g c f m =
    let links = g.L.Links in
    let o = c.args.open_fetch in
    let new = c.step.new.self in
    let link = link_at links c.args.link.now in
    let link' = link_at links c.step.new.link in
    let e = c.step.ensures in
    let held = held_over (lost_of o.fetch) (lost_of new) c.step.result c.in-Err.loss link.faults link'.faults e.held
    c.in-Err.is c.in-Err.ensures.lost (λ some. ap links.faults (e.untouched some)) in
    let calls : Calls links.tells f.since.faults o.fetch new link link' = record {
      plan = e.plan;
      rest = e.rest;
      may = e.may;
      lost = lost_since (lost_of o.fetch) (lost_of new) f.since.faults link.faults link'.faults
          m.is.carried.used.later e.cause held m.is.lost;
      later = e.later;
      answered = e.answered;
    } in
    subst (λ (gain : Gain). IsReadInHand links.tells c.args.allow f link'
    (record { open_fetch = record { claim = o.claim; fetch = new; left = 0 }; gain = gain })) (sym c.gain_of.ensures)
    (lost_step links.tells o f new c.in-Err.loss c.args.allow link link' c.requires.within m calls c.in-Err.ensures.none_ready c.in-Err.ensures.lost
    (λ t. c.in-Err.ensures.reads t f.job f.since.state.exchanges f.used f.handed (m.is.fetch t)
    (m.is.carried.used.gained t)))
