use Rattle.std.proofs.Common.{true, List, ℕ, subst, inl}
use Rattle.std.proofs.lemmas.Result.{err_from_is_err_and}
use Rattle.request_chain.specs.Probes.{probe_asked}
use Rattle.request_chain.specs.Sending.{IsOpened, IsUnopened}
use Rattle.request_chain.proofs.AnsweredLemmas.{answered_few}
use Rattle.request_chain.proofs.SearchLemmas.{heads_or}
use Rattle.request_chain.proofs.probing.ask.Goals as goal

pub returns-in_err-peer-clause-asks : goal.returns-in_err-peer-clause-asks
returns-in_err-peer-clause-asks g c told =
    let p = err_from_is_err_and c.from_residual.result c.from_residual.ensures.1 in
    let lost = c.in_err-peer.ensures.lost told in
    let P : List ℕ → Type 0 = λ url. IsUnopened url c.args.hop.now.status (g.L.Links.state c.args.link.now).exchanges (g.L.Links.state c.send_request.new.link).exchanges (g.L.Links.faults c.send_request.new.link) c.in_err-peer.field-0.0 in
    rw (p.1, p.2) (inl (subst P c.as_str.ensures lost))

pub returns-clause-asks : goal.returns-clause-asks
returns-clause-asks g c told =
    let opened = c.in_ok-peer.ensures.sent told in
    let P : List ℕ → Type 0 = λ url. IsOpened url probe_asked true (g.L.Links.state c.args.link.now).exchanges (g.L.Links.state c.send_request.new.link).exchanges in
    heads_or c.args.hop.now.url c.args.hop.now.status _ _ _ _ c.receive_head.result (c.receive_head.ensures.heads told c.args.hop.now.url (g.L.Links.state c.args.link.now).exchanges (subst P c.as_str.ensures opened))

pub returns-clause-answered : goal.returns-clause-answered
returns-clause-answered g c told before old were =
    let opened = c.in_ok-peer.ensures.sent told in
    c.receive_head.ensures.answered told _ (g.L.Links.state c.args.link.now).exchanges before opened (answered_few old before _ were) old
    (c.send_request.ensures.answered told before old were)
