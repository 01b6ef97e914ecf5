use Rattle.std.proofs.Common.{sym, arith}
use Rattle.conn_worker.specs.Hands.{link_at}
use Rattle.conn_worker.proofs.Steps.{read_none, read_whole}
use Rattle.conn_worker.proofs.fetching.read_rest.Goals as goal

pub returns-then-left-eq0 : goal.returns-then-left-eq0
returns-then-left-eq0 g c f m opened =
    read_none g.L.Links.tells c.args.open_fetch f (link_at g.L.Links c.args.link.now) c.if-left-eq0.true opened m

pub read-requires-clause-may : goal.read-requires-clause-may
read-requires-clause-may g c = c.requires.may

pub read-requires-clause-some : goal.read-requires-clause-some
read-requires-clause-some g c = (let some = c.if-left-eq0.false in omega (arith, some))

pub read-requires-clause-within : goal.read-requires-clause-within
read-requires-clause-within g c = omega arith

pub returns : goal.returns
returns g c f m opened =
    let links = g.L.Links in
    let h = c.read.result in
    read_whole links.tells c.args.open_fetch.left f (link_at links c.read.new.link) h.open_fetch h.gain (sym m.is.left)
    (c.read.ensures f m)
