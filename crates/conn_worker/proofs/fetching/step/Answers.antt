use Rattle.std.proofs.Common.{ap, subst}
use Rattle.conn_worker.specs.Hands.{Fetching, link_at}
use Rattle.conn_worker.specs.Holding.{IsPartInHand}
use Rattle.conn_worker.proofs.Steps.{part_of, read_further, read_once, read_opened}
use Rattle.conn_worker.proofs.fetching.step.Goals as goal

pub read_rest-requires : goal.read_rest-requires
read_rest-requires g c =
    let m = c.requires.may in
    let h = c.read-open_fetch.result in
    let read = read_opened g.L.Links.tells c.min-allow.result m.0 (link_at g.L.Links c.read-open_fetch.new.link) h
    c.in-Open.is (c.read-open_fetch.ensures m.0 m.1) in
    record { may = (read.0, read.1.may) }

pub returns-in-Open : goal.returns-in-Open
returns-in-Open g c f m =
    let links = g.L.Links in
    let h = c.read-open_fetch.result in
    let allow = c.min-allow.result in
    let between = link_at links c.read-open_fetch.new.link in
    let link' = link_at links c.read_rest.new.link in
    let read = read_opened links.tells allow f between h c.in-Open.is (c.read-open_fetch.ensures f m) in
    let step = c.read_rest.ensures read.0 read.1.may (ap (λ (x : Fetching). x.gain) read.1.same) in
    subst (λ n. IsPartInHand links.tells n f link' c.read_rest.result)
    (part_of links.tells c.args.open_fetch f (link_at links c.args.link.now) c.args.part.bytes allow c.min-allow.ensures m)
    (read_further links.tells allow h.open_fetch f between link' c.read_rest.result read step)

pub returns-in_default : goal.returns-in_default
returns-in_default g c f m =
    let links = g.L.Links in
    let h = c.read-open_fetch.result in
    let allow = c.min-allow.result in
    let link' = link_at links c.read-open_fetch.new.link in
    subst (λ n. IsPartInHand links.tells n f link' (record { open_fetch = h.open_fetch; gain = h.gain }))
    (part_of links.tells c.args.open_fetch f (link_at links c.args.link.now) c.args.part.bytes allow c.min-allow.ensures m)
    (read_once links.tells allow f link' h.open_fetch h.gain c.in_default.not-Open (c.read-open_fetch.ensures f m))
