use Rattle.std.proofs.Common.{true, List, ℕ, [], ◌∷◌, ◌++◌, refl, sym, subst, arith}
use Rattle.std.proofs.lemmas.Result.{err_from_is_err_and}
use Rattle.request_chain.specs.Courses.{plan_now}
use Rattle.request_chain.specs.Stages.{IsReading, IsReadingHead}
use Rattle.request_chain.proofs.AskLemmas.{asks_of, asked_in, opened_head, opened_steps, unopened_loses}
use Rattle.request_chain.proofs.chain.Chain.ask_first.Goals as goal

pub returns-in_err-peer-clause-asks : goal.returns-in_err-peer-clause-asks
returns-in_err-peer-clause-asks g c told parts before used bytes is gains =
    let p = err_from_is_err_and c.from_residual.result c.from_residual.ensures.1 in
    let self = c.args.self.now in
    let asks = asks_of (plan_now self.course) c.requires.asking in
    let reading = subst (λ stage. IsReading stage self.course self.room.inbox parts used bytes) c.requires.none_open is.reading in
    let url = asked_in _ asks.part asks.others asks.url asks.count asks.status _ asks.is c.url.ensures in
    let status = asked_in _ asks.part asks.others asks.url asks.count asks.status _ asks.is c.status.ensures in
    rw (p.1, p.2) (unopened_loses parts before used _ _ (plan_now self.course) bytes asks reading.0 gains _ _ _ refl _ _ url status _ (c.in_err-peer.ensures.lost told))

pub returns-clause-asks : goal.returns-clause-asks
returns-clause-asks g c told parts before used bytes is gains =
    let self = c.args.self.now in
    let asks = asks_of (plan_now self.course) c.requires.asking in
    let reading = subst (λ stage. IsReading stage self.course self.room.inbox parts used bytes) c.requires.none_open is.reading in
    let url = asked_in _ asks.part asks.others asks.url asks.count asks.status _ asks.is c.url.ensures in
    let asked = asked_in _ asks.part asks.others asks.url asks.count asks.status _ asks.is c.asked-asked.ensures.asked in
    let opened = c.in_ok-peer.ensures.sent told in
    let head = opened_head parts before used _ _ (plan_now self.course) bytes asks reading.0 gains self.course refl _ asked c.asked-asked.ensures.ordered (omega (arith, c.asked-asked.ensures.bounded)) _ url c.new.result c.new.ensures.at opened in
    let P : List ℕ → Type 0 = λ waiting. IsReadingHead parts (used ++ opened.stream ∷ []) self.course waiting bytes c.new.result in
    opened_steps parts before used _ _ (plan_now self.course) bytes asks reading.0 gains _ _ true opened _ _ refl
    (record { reading = subst P (sym reading.1) head; behind = reading.1 })
