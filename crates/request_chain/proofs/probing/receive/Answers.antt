use Rattle.std.proofs.Common.{sym, ap, ◌∙◌, arith}
use Rattle.std.proofs.lemmas.Result.{err_from_is_err_and}
use Rattle.link_source.specs.Exchanges.{with_received}
use Rattle.request_chain.proofs.AnsweredLemmas.{answered_received, answered_still, comes_due, top_later}
use Rattle.request_chain.proofs.Little.{probe_little}
use Rattle.request_chain.proofs.ProbeLemmas.{unchecked_ended, unchecked_still, short_ended, link_lost, more_came}
use Rattle.request_chain.proofs.TurnLemmas.{no_bytes}
use Rattle.request_chain.proofs.probing.receive.Goals as goal

pub returns-in_ok-check_head-in-Ok-eq0-clause-receives : goal.returns-in_ok-check_head-in-Ok-eq0-clause-receives
returns-in_ok-check_head-in-Ok-eq0-clause-receives g c told url before awaits =
    let none = no_bytes c.refill.new.self (sym c.in-Ok-eq0.ensures.count ∙ c.in-Ok-eq0.field-0-test) in
    let ended = c.in-Ok-eq0.ensures.received told ∙ ap (λ came. with_received came (g.L.Links.state c.args.link.now).exchanges) none in
    short_ended url before _ _ _ _ awaits 0 c.in_ok-check_head-in-Ok-eq0.ensures.due ended

pub returns-in_err-check_head-in-Ok-eq0-clause-receives : goal.returns-in_err-check_head-in-Ok-eq0-clause-receives
returns-in_err-check_head-in-Ok-eq0-clause-receives g c told url before awaits =
    let p = err_from_is_err_and c.from_residual.result c.from_residual.ensures.1 in
    let none = no_bytes c.refill.new.self (sym c.in-Ok-eq0.ensures.count ∙ c.in-Ok-eq0.field-0-test) in
    let ended = c.in-Ok-eq0.ensures.received told ∙ ap (λ came. with_received came (g.L.Links.state c.args.link.now).exchanges) none in
    rw (p.1, p.2) (unchecked_ended url before _ _ _ _ awaits _ _ c.in_err-check_head-in-Ok-eq0.ensures.lost ended)

pub returns-in_err-check_head-in-Err-clause-receives : goal.returns-in_err-check_head-in-Err-clause-receives
returns-in_err-check_head-in-Err-clause-receives g c told url before awaits =
    let p = err_from_is_err_and c.from_residual-in_err-check_head-in-Err.result c.from_residual-in_err-check_head-in-Err.ensures.1 in
    rw (p.1, p.2) (unchecked_still url before _ _ _ _ awaits _ _ c.in_err-check_head-in-Err.ensures.lost (c.in-Err.ensures.failed told))

pub returns-in-Ok-clause-receives : goal.returns-in-Ok-clause-receives
returns-in-Ok-clause-receives g c told url before awaits =
    more_came url before _ _ _ _ awaits c.refill.new.self c.in-Ok.count c.in-Ok.ensures.count (omega (arith, c.in-Ok.ensures.count)) (omega (arith, c.in-Ok.ensures.most)) (c.in-Ok.ensures.received told)

pub returns-in_ok-check_head-in-Err-clause-receives : goal.returns-in_ok-check_head-in-Err-clause-receives
returns-in_ok-check_head-in-Err-clause-receives g c told url before awaits =
    link_lost url before _ _ _ _ awaits _ c.in-Err.error _ c.link_loss.ensures.loss c.in_ok-check_head-in-Err.ensures.due (c.in-Err.ensures.failed told)

pub returns-in_ok-check_head-in-Ok-eq0-clause-answered : goal.returns-in_ok-check_head-in-Ok-eq0-clause-answered
returns-in_ok-check_head-in-Ok-eq0-clause-answered g c told url others before awaits few =
    answered_received before _ _ c.refill.new.self (top_later before others _ awaits.stream awaits.on_top few) (c.requires.listens told)
    (c.in-Ok-eq0.ensures.received told) (comes_due _ c.refill.new.self _ _ c.in-Ok-eq0.ensures.count (c.in-Ok-eq0.ensures.given told)) (c.refill.ensures.kept told)
    (probe_little c.replies_are_read_short.ensures.not_final url others _ _ _ c.refill.new.self awaits (omega (arith, c.in-Ok-eq0.ensures.count, c.in-Ok-eq0.ensures.most))
    (omega (arith, c.in-Ok-eq0.ensures.count, c.in-Ok-eq0.ensures.most, c.most_asked.ensures.few)))

pub returns-in_err-check_head-in-Ok-eq0-clause-answered : goal.returns-in_err-check_head-in-Ok-eq0-clause-answered
returns-in_err-check_head-in-Ok-eq0-clause-answered g c told url others before awaits few =
    answered_received before _ _ c.refill.new.self (top_later before others _ awaits.stream awaits.on_top few) (c.requires.listens told)
    (c.in-Ok-eq0.ensures.received told) (comes_due _ c.refill.new.self _ _ c.in-Ok-eq0.ensures.count (c.in-Ok-eq0.ensures.given told)) (c.refill.ensures.kept told)
    (probe_little c.replies_are_read_short.ensures.not_final url others _ _ _ c.refill.new.self awaits (omega (arith, c.in-Ok-eq0.ensures.count, c.in-Ok-eq0.ensures.most))
    (omega (arith, c.in-Ok-eq0.ensures.count, c.in-Ok-eq0.ensures.most, c.most_asked.ensures.few)))

pub returns-in-Ok-clause-answered : goal.returns-in-Ok-clause-answered
returns-in-Ok-clause-answered g c told url others before awaits few =
    answered_received before _ _ c.refill.new.self (top_later before others _ awaits.stream awaits.on_top few) (c.requires.listens told)
    (c.in-Ok.ensures.received told) (comes_due _ c.refill.new.self _ _ c.in-Ok.ensures.count (c.in-Ok.ensures.given told)) (c.refill.ensures.kept told)
    (probe_little c.replies_are_read_short.ensures.not_final url others _ _ _ c.refill.new.self awaits (omega (arith, c.in-Ok.ensures.count, c.in-Ok.ensures.most))
    (omega (arith, c.in-Ok.ensures.count, c.in-Ok.ensures.most, c.most_asked.ensures.few)))

pub returns-in_err-check_head-in-Err-clause-answered : goal.returns-in_err-check_head-in-Err-clause-answered
returns-in_err-check_head-in-Err-clause-answered g c told url others before awaits few =
    answered_still before _ _ (c.requires.listens told) (c.refill.ensures.kept told) (c.in-Err.ensures.failed told) (c.in-Err.ensures.held told)

pub returns-in_ok-check_head-in-Err-clause-answered : goal.returns-in_ok-check_head-in-Err-clause-answered
returns-in_ok-check_head-in-Err-clause-answered g c told url others before awaits few =
    answered_still before _ _ (c.requires.listens told) (c.refill.ensures.kept told) (c.in-Err.ensures.failed told) (c.in-Err.ensures.held told)
