use Rattle.std.proofs.Common.{List, ℕ, refl, sym, ap, subst, ◌∙◌, arith}
use Rattle.std.proofs.lemmas.Result.{err_from_is_err_and}
use Rattle.link_source.specs.Exchanges.{with_received}
use Rattle.reply_reader.specs.declared.loss.Loss.TheVariants.{Short}
use Rattle.request_chain.specs.Stages.{IsReading, got_at}
use Rattle.request_chain.proofs.AnsweredLemmas.{answered_received, answered_still, comes_due, sent_later}
use Rattle.request_chain.proofs.Little.{little_newest}
use Rattle.request_chain.proofs.ReadingLemmas.{short_answer}
use Rattle.request_chain.proofs.ReceivingLemmas.{more_reading}
use Rattle.request_chain.proofs.TurnLemmas.{no_bytes, ended_loses, unchecked_ended, unchecked_still, link_loses}
use Rattle.request_chain.proofs.chain.Chain.receive.Goals as goal

pub returns-in_ok-check-in-Ok-eq0-clause-receives : goal.returns-in_ok-check-in-Ok-eq0-clause-receives
returns-in_ok-check-in-Ok-eq0-clause-receives g c told parts before used bytes is gains =
    let self = c.args.self.now in
    let P : List ℕ → Type 0 = λ waiting. IsReading self.stage self.course waiting parts used bytes in
    let reading = subst P c.requires.none_waits is.reading in
    let has = short_answer parts used self.course bytes self.stage reading c.in_ok-check-in-Ok-eq0.ensures.due c.requires.sent c.requires.heard in
    let none = no_bytes c.refill.new.self (sym c.in-Ok-eq0.ensures.count ∙ c.in-Ok-eq0.field-0-test) in
    let ended = c.in-Ok-eq0.ensures.received told ∙ ap (λ came. with_received came (g.L.Links.state c.args.link.now).exchanges) none in
    rw c.got.ensures (ended_loses parts before used _ _ self.course bytes _ _ _ refl (Short (got_at self.stage)) tt has.0 has.1 gains ended)

pub returns-in_err-check-in-Ok-eq0-clause-receives : goal.returns-in_err-check-in-Ok-eq0-clause-receives
returns-in_err-check-in-Ok-eq0-clause-receives g c told parts before used bytes is gains =
    let p = err_from_is_err_and c.from_residual.result c.from_residual.ensures.1 in
    let self = c.args.self.now in
    let P : List ℕ → Type 0 = λ waiting. IsReading self.stage self.course waiting parts used bytes in
    let reading = subst P c.requires.none_waits is.reading in
    let none = no_bytes c.refill.new.self (sym c.in-Ok-eq0.ensures.count ∙ c.in-Ok-eq0.field-0-test) in
    let ended = c.in-Ok-eq0.ensures.received told ∙ ap (λ came. with_received came (g.L.Links.state c.args.link.now).exchanges) none in
    rw (p.1, p.2) (unchecked_ended parts before used _ _ self.course bytes _ _ _ refl self.stage _ c.in_err-check-in-Ok-eq0.ensures.lost reading c.requires.sent c.requires.heard gains ended)

pub returns-in_err-check-in-Err-clause-receives : goal.returns-in_err-check-in-Err-clause-receives
returns-in_err-check-in-Err-clause-receives g c told parts before used bytes is gains =
    let p = err_from_is_err_and c.from_residual-in_err-check-in-Err.result c.from_residual-in_err-check-in-Err.ensures.1 in
    let self = c.args.self.now in
    let P : List ℕ → Type 0 = λ waiting. IsReading self.stage self.course waiting parts used bytes in
    let reading = subst P c.requires.none_waits is.reading in
    rw (p.1, p.2) (unchecked_still parts before used _ _ self.course bytes _ _ _ refl self.stage _ c.in_err-check-in-Err.ensures.lost reading gains (c.in-Err.ensures.failed told))

pub returns-in-Ok-clause-receives : goal.returns-in-Ok-clause-receives
returns-in-Ok-clause-receives g c told parts before used bytes is gains =
    let self = c.args.self.now in
    let P : List ℕ → Type 0 = λ waiting. IsReading self.stage self.course waiting parts used bytes in
    let reading = subst P c.requires.none_waits is.reading in
    let refilled = c.in-Ok.ensures in
    let later = more_reading parts before used _ _ self.course self.stage c.refill.new.self bytes (omega (arith, refilled.count)) gains (refilled.received told) c.requires.sent c.requires.heard reading in
    record { later = later.0; gains = later.1; taken_is = omega (arith, later.2, refilled.count); reading = later.3 }

pub returns-in_ok-check-in-Err-clause-receives : goal.returns-in_ok-check-in-Err-clause-receives
returns-in_ok-check-in-Err-clause-receives g c told parts before used bytes is gains =
    let self = c.args.self.now in
    let P : List ℕ → Type 0 = λ waiting. IsReading self.stage self.course waiting parts used bytes in
    let reading = subst P c.requires.none_waits is.reading in
    link_loses parts before used _ _ self.course bytes _ _ _ refl c.in-Err.error _ self.stage c.link_loss.ensures.loss reading c.in_ok-check-in-Err.ensures.due c.requires.sent gains (c.in-Err.ensures.failed told)

pub returns-in_ok-check-in-Ok-eq0-clause-answered : goal.returns-in_ok-check-in-Ok-eq0-clause-answered
returns-in_ok-check-in-Ok-eq0-clause-answered g c told parts before used bytes is gains since few =
    let self = c.args.self.now in
    answered_received since _ _ c.refill.new.self
    (sent_later parts since before _ used self.course bytes self.room.inbox self.stage few is.reading c.requires.sent gains) (c.requires.listens told)
    (c.in-Ok-eq0.ensures.received told) (comes_due _ c.refill.new.self _ _ c.in-Ok-eq0.ensures.count (c.in-Ok-eq0.ensures.given told)) (c.refill.ensures.kept told)
    (little_newest c.replies_are_read_short.ensures.final_head c.replies_are_read_short.ensures.heads c.replies_are_read_short.ensures.not_final c.replies_are_read_short.ensures.slices
    parts before _ used self.course bytes c.refill.new.self c.most_asked.result (omega (arith, c.in-Ok-eq0.ensures.count, c.in-Ok-eq0.ensures.most)) (omega (arith, c.in-Ok-eq0.ensures.count, c.in-Ok-eq0.ensures.most, c.most_asked.ensures.few))
    self.stage c.most_asked.ensures.head c.requires.sent (subst (λ waiting. IsReading self.stage self.course waiting parts used bytes) c.requires.none_waits is.reading) gains)

pub returns-in_err-check-in-Ok-eq0-clause-answered : goal.returns-in_err-check-in-Ok-eq0-clause-answered
returns-in_err-check-in-Ok-eq0-clause-answered g c told parts before used bytes is gains since few =
    let self = c.args.self.now in
    answered_received since _ _ c.refill.new.self
    (sent_later parts since before _ used self.course bytes self.room.inbox self.stage few is.reading c.requires.sent gains) (c.requires.listens told)
    (c.in-Ok-eq0.ensures.received told) (comes_due _ c.refill.new.self _ _ c.in-Ok-eq0.ensures.count (c.in-Ok-eq0.ensures.given told)) (c.refill.ensures.kept told)
    (little_newest c.replies_are_read_short.ensures.final_head c.replies_are_read_short.ensures.heads c.replies_are_read_short.ensures.not_final c.replies_are_read_short.ensures.slices
    parts before _ used self.course bytes c.refill.new.self c.most_asked.result (omega (arith, c.in-Ok-eq0.ensures.count, c.in-Ok-eq0.ensures.most)) (omega (arith, c.in-Ok-eq0.ensures.count, c.in-Ok-eq0.ensures.most, c.most_asked.ensures.few))
    self.stage c.most_asked.ensures.head c.requires.sent (subst (λ waiting. IsReading self.stage self.course waiting parts used bytes) c.requires.none_waits is.reading) gains)

pub returns-in-Ok-clause-answered : goal.returns-in-Ok-clause-answered
returns-in-Ok-clause-answered g c told parts before used bytes is gains since few =
    let self = c.args.self.now in
    answered_received since _ _ c.refill.new.self
    (sent_later parts since before _ used self.course bytes self.room.inbox self.stage few is.reading c.requires.sent gains) (c.requires.listens told)
    (c.in-Ok.ensures.received told) (comes_due _ c.refill.new.self _ _ c.in-Ok.ensures.count (c.in-Ok.ensures.given told)) (c.refill.ensures.kept told)
    (little_newest c.replies_are_read_short.ensures.final_head c.replies_are_read_short.ensures.heads c.replies_are_read_short.ensures.not_final c.replies_are_read_short.ensures.slices
    parts before _ used self.course bytes c.refill.new.self c.most_asked.result (omega (arith, c.in-Ok.ensures.count, c.in-Ok.ensures.most)) (omega (arith, c.in-Ok.ensures.count, c.in-Ok.ensures.most, c.most_asked.ensures.few))
    self.stage c.most_asked.ensures.head c.requires.sent (subst (λ waiting. IsReading self.stage self.course waiting parts used bytes) c.requires.none_waits is.reading) gains)

pub returns-in_err-check-in-Err-clause-answered : goal.returns-in_err-check-in-Err-clause-answered
returns-in_err-check-in-Err-clause-answered g c told parts before used bytes is gains since few =
    answered_still since _ _ (c.requires.listens told) (c.refill.ensures.kept told) (c.in-Err.ensures.failed told) (c.in-Err.ensures.held told)

pub returns-in_ok-check-in-Err-clause-answered : goal.returns-in_ok-check-in-Err-clause-answered
returns-in_ok-check-in-Err-clause-answered g c told parts before used bytes is gains since few =
    answered_still since _ _ (c.requires.listens told) (c.refill.ensures.kept told) (c.in-Err.ensures.failed told) (c.in-Err.ensures.held told)
