use Rattle.std.proofs.Common.{◌≡◌, ◌+◌, List, ℕ, refl, sym, ap, subst, ◌∙◌, arith, Ok}
use Rattle.std.proofs.lemmas.Bool.{lt-leb}
use Rattle.std.specs.Prelude.{◌⊎◌, None}
use Rattle.std.proofs.lemmas.Result.{err_from_is_err_and}
use Rattle.link_source.specs.Endpoint.{IsHttp}
use Rattle.reply_reader.specs.declared.loss.Loss.TheVariants.{NoMemory}
use Rattle.request_chain.specs.Probes.{Told, Lost, At}
use Rattle.request_chain.specs.Redirects.{moved_to}
use Rattle.request_chain.specs.Plans.{unusable}
use Rattle.request_chain.specs.Searches.{SearchLeads}
use Rattle.request_chain.proofs.AnsweredLemmas.{answered_few}
use Rattle.request_chain.proofs.SearchLemmas.{none_of, head_tells, head_moves, found, loss_found, ask_loses, moved_often, moved_on, moved_nowhere}
use Rattle.request_chain.proofs.probing.probe.Goals as goal

pub returns-in_err-head-clause-probes : goal.returns-in_err-head-clause-probes
returns-in_err-head-clause-probes g c told =
    let p = err_from_is_err_and c.from_residual.result c.from_residual.ensures.1 in
    let searched = c.turns.invariant.searched told in
    let lost = ask_loses c.args.url.now c.turns.hop.url c.turns.redirects c.turns.hop.status _ _ _ searched.0 searched.1 searched.2 _ _ (c.in_err-head.ensures.asks told) in
    (lost.0, lost.1, rw (p.1, p.2) lost.2)

pub returns-in_err-total-clause-probes : goal.returns-in_err-total-clause-probes
returns-in_err-total-clause-probes g c told =
    let p = err_from_is_err_and c.from_residual-in_err-total.result c.from_residual-in_err-total.ensures.1 in
    let searched = c.turns.invariant.searched told in
    let has = c.in_ok-head.ensures.asks told in
    let own = c.in_err-total.ensures.lost in
    let lost = loss_found c.args.url.now c.turns.hop.url c.turns.redirects c.turns.hop.status _ _ _ searched.0 searched.1 searched.2 (g.L.Links.faults c.ask.new.link) _ (Lost c.in_err-total.field-0.0) own.0
    (head_tells c.turns.hop.url _ _ c.in_ok-head.head has.has (Lost c.in_err-total.field-0.0) own.1) refl in
    (lost.0, lost.1, rw (p.1, p.2) lost.2)

pub returns-in-Some-clause-probes : goal.returns-in-Some-clause-probes
returns-in-Some-clause-probes g c told =
    let searched = c.turns.invariant.searched told in
    let has = c.let_go.ensures.has told c.turns.hop.url _ (c.in_ok-head.ensures.asks told) in
    let is = rw c.in-Some.is at c.in_ok-total.ensures.length in
    found c.args.url.now c.turns.hop.url c.turns.redirects c.turns.hop.status _ _ _ searched.0 searched.1 searched.2 (Told c.in-Some.total) (Told c.in-Some.total)
    (head_tells c.turns.hop.url _ _ c.in_ok-head.head has (Told c.in-Some.total) is) refl

pub returns-in-Some-clause-whole : goal.returns-in-Some-clause-whole
returns-in-Some-clause-whole g c told = c.let_go.ensures.whole told c.turns.hop.url _ (c.in_ok-head.ensures.asks told)

pub returns-then-redirects-ge-REDIRECT_LIMIT-clause-probes : goal.returns-then-redirects-ge-REDIRECT_LIMIT-clause-probes
returns-then-redirects-ge-REDIRECT_LIMIT-clause-probes g c told =
    let searched = c.turns.invariant.searched told in
    let has = c.in_ok-head.ensures.asks told in
    let none = none_of c.in_ok-total.field-0 c.in_default-2.not-Some in
    let moves = head_moves c.turns.hop.url _ _ c.in_ok-head.head has.has (c.in_ok-total.ensures.moved (ap Ok none)) in
    moved_often c.args.url.now c.turns.hop.url c.turns.redirects c.turns.hop.status _ _ _ searched.0 searched.1 searched.2 moves.0 c.in_ok-head.head.status
    c.if-redirects-ge-REDIRECT_LIMIT.true moves.2

pub returns-in_err-hop-clause-probes : goal.returns-in_err-hop-clause-probes
returns-in_err-hop-clause-probes g c told =
    let p = err_from_is_err_and c.from_residual-in_err-hop.result c.from_residual-in_err-hop.ensures.1 in
    let searched = c.turns.invariant.searched told in
    let has = c.in_ok-head.ensures.asks told in
    let none = none_of c.in_ok-total.field-0 c.in_default-2.not-Some in
    let moves = head_moves c.turns.hop.url _ _ c.in_ok-head.head has.has (c.in_ok-total.ensures.moved (ap Ok none)) in
    let few = lt-leb 20 c.turns.redirects c.if-redirects-ge-REDIRECT_LIMIT.false in
    let by = c.in_ok-head.head.status in
    let loss = c.in_err-hop.field-0.0 in
    let P : List ℕ → Type 0 = λ url. (loss ≡ NoMemory) ⊎ ((loss ≡ unusable by) × (moved_to url moves.0 ≡ None)) in
    let lost = moved_nowhere c.args.url.now c.turns.hop.url c.turns.redirects c.turns.hop.status _ _ _ searched.0 searched.1 searched.2 (g.L.Links.faults c.ask.new.link) moves.0 by loss few moves.2
    (subst P c.as_str.ensures (c.in_err-hop.ensures.leads moves.0 moves.1)) in
    (lost.0, lost.1, rw (p.1, p.2) lost.2)

pub turns-preserved : goal.turns-preserved
turns-preserved g c = record {
  few = omega (arith, c.if-redirects-ge-REDIRECT_LIMIT.false);
  tired = c.ask.ensures.tired ∙ c.turns.invariant.tired;
  faults = omega (arith, c.turns.invariant.faults, c.ask.ensures.later);
  searched = λ told.
      let searched = c.turns.invariant.searched told in
      let has = c.in_ok-head.ensures.asks told in
      let none = none_of c.in_ok-total.field-0 c.in_default-2.not-Some in
      let moves = head_moves c.turns.hop.url _ _ c.in_ok-head.head has.has (c.in_ok-total.ensures.moved (ap Ok none)) in
      let few = lt-leb 20 c.turns.redirects c.if-redirects-ge-REDIRECT_LIMIT.false in
      let led = c.in_ok-hop.ensures.leads moves.0 moves.1 in
      let to = ap (λ url. moved_to url moves.0) (sym c.as_str.ensures) ∙ led.0 in
      let on = moved_on c.args.url.now c.turns.hop.url c.turns.redirects c.turns.hop.status _ _ _ searched.0 searched.1 searched.2 moves.0 c.in_ok-hop.hop.url c.in_ok-head.head.status few to moves.2 in
      let P : ℕ → Type 0 = λ status. SearchLeads (At c.args.url.now 0 0) on.0 (At c.in_ok-hop.hop.url (c.turns.redirects + 1) status) in
      (on.0, on.1, subst P (sym led.1) on.2);
  untouched = λ unusable.
      let same = c.turns.invariant.untouched unusable in
      absurd (unusable (subst IsHttp same.1 c.in_ok-head.ensures.usable));
  answered = λ told before old were. c.ask.ensures.answered told before old (c.turns.invariant.answered told before old were);
}

pub returns-in_err-total-clause-answered : goal.returns-in_err-total-clause-answered
returns-in_err-total-clause-answered g c told before old were = c.ask.ensures.answered told before old (c.turns.invariant.answered told before old were)

pub returns-in-Some-clause-answered : goal.returns-in-Some-clause-answered
returns-in-Some-clause-answered g c told before old were =
    let was = c.turns.invariant.answered told before old were in
    c.let_go.ensures.answered told c.turns.hop.url _ before (c.in_ok-head.ensures.asks told) (answered_few old before _ was) old
    (c.ask.ensures.answered told before old was)

pub returns-in_err-head-clause-answered : goal.returns-in_err-head-clause-answered
returns-in_err-head-clause-answered g c told before old were = c.ask.ensures.answered told before old (c.turns.invariant.answered told before old were)

pub returns-then-redirects-ge-REDIRECT_LIMIT-clause-answered : goal.returns-then-redirects-ge-REDIRECT_LIMIT-clause-answered
returns-then-redirects-ge-REDIRECT_LIMIT-clause-answered g c told before old were = c.ask.ensures.answered told before old (c.turns.invariant.answered told before old were)

pub returns-in_err-hop-clause-answered : goal.returns-in_err-hop-clause-answered
returns-in_err-hop-clause-answered g c told before old were = c.ask.ensures.answered told before old (c.turns.invariant.answered told before old were)
