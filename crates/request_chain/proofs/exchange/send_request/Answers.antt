use Rattle.std.proofs.Common.{◌∙◌, ap, inl}
use Rattle.link_source.specs.Link.{LinkState}
use Rattle.request_chain.proofs.AnsweredLemmas.{answered_quiet, answered_sent}
use Rattle.request_chain.proofs.exchange.send_request.Goals as goal

pub returns-in-Ok-clause-answered : goal.returns-in-Ok-clause-answered
returns-in-Ok-clause-answered g c told before old is =
    let dials = c.in_default.ensures.dialled told in
    let dialled = answered_quiet before _ _ dials.exchanges dials.content dials.listens old is in
    answered_sent c.replies_are_read_short.ensures.nothing before _ _ _ _ _ dials.peer (inl dials.due) (c.in-Ok.ensures.sent told) old dialled

pub returns-in-Err-send-clause-answered : goal.returns-in-Err-send-clause-answered
returns-in-Err-send-clause-answered g c told before =
    let dials = c.in_default.ensures.dialled told in
    let same = c.in-Err-send.ensures.failed told in
    answered_quiet before _ _ (ap (λ (l : LinkState). l.exchanges) same ∙ dials.exchanges) (ap (λ (l : LinkState). l.content) same ∙ dials.content)
    (ap (λ (l : LinkState). l.listens) same ∙ dials.listens)
