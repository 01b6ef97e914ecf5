use Rattle.std.proofs.Common.{◌++◌, ◌∷◌, List, [], subst, rules}
use Rattle.std.proofs.lemmas.Result.{err_from_is_err_and}
use Rattle.link_source.specs.Exchanges.{Exchange}
use Rattle.ftp_steps.specs.StepFacts.{FollowsStep}
use Rattle.ftp_steps.specs.declared.turn.FtpTurn.{FtpTurn}
use Rattle.ftp_fetches.specs.SizeDialogues.{size_dialogue_behind}
use Rattle.ftp_link.specs.Probing.{LeadsToSize}
use Rattle.ftp_link.proofs.GainLemmas.{more_gains, same_gains}
use Rattle.ftp_link.proofs.SizeLemmas.{size_step, size_found, size_fails, size_lost, size_refused, answered_on}
use Rattle.ftp_link.proofs.StepLemmas.{keeps_on}
use Rattle.ftp_link.proofs.probing.ask_size.Goals as goal

pub returns-in_err-turn-clause-probes : goal.returns-in_err-turn-clause-probes
returns-in_err-turn-clause-probes g c told =
    let p = err_from_is_err_and c.from_residual-in_err-turn.result c.from_residual-in_err-turn.ensures.1 in
    let asks = c.steps.invariant.asks told in
    let lost = c.in_err-turn.ensures.hears told c.args.place.now asks.1 asks.3 in
    let heard = lost.1 in
    let leads = size_step c.args.place.now asks.0 c.steps.step heard.0 lost.0 asks.4 heard.2 in (
      asks.0 ++ heard.0 ∷ [],
      more_gains _ asks.1 _ asks.0 heard.0 heard.1 asks.2,
      rw (p.1, p.2) (size_lost c.args.place.now (asks.0 ++ heard.0 ∷ []) lost.0 _ _ leads lost.2),
    )

pub returns-in_err-turn-clause-answered : goal.returns-in_err-turn-clause-answered
returns-in_err-turn-clause-answered g c told before =
    let asks = c.steps.invariant.asks told in
    answered_on c.links_keep_answers.ensures.few before _ _ _ asks.1 asks.0 asks.2 (c.steps.invariant.answered told before)
    (λ behind. c.in_err-turn.ensures.answered told c.args.place.now before asks.1 asks.3 behind)

pub steps-preserved : goal.steps-preserved
steps-preserved g c = record {
  clear = search rules;
  talks = search rules;
  faults = search rules;
  asks = λ told.
      let asks = c.steps.invariant.asks told in
      let heard = c.in_ok-turn.ensures.hears told c.args.place.now asks.1 asks.3 in
      let leads = size_step c.args.place.now asks.0 c.steps.step heard.0 _ asks.4 heard.2 in (
        asks.0 ++ heard.0 ∷ [],
        (g.L.Links.state c.hear_reply.new.link).exchanges,
        more_gains _ asks.1 _ asks.0 heard.0 heard.1 asks.2,
        c.in_ok-say-in-Next.ensures.begun told,
        subst (λ (t : FtpTurn). LeadsToSize c.args.place.now (asks.0 ++ heard.0 ∷ []) (size_dialogue_behind t)) c.in-Next.is leads,
      );
  answered = λ told before.
      let asks = c.steps.invariant.asks told in
      keeps_on before _ _ _ (answered_on c.links_keep_answers.ensures.few before _ _ _ asks.1 asks.0 asks.2 (c.steps.invariant.answered told before)
      (λ behind. c.in_ok-turn.ensures.answered told c.args.place.now before asks.1 asks.3 behind))
      (c.in_ok-say-in-Next.ensures.answered told before);
}

pub returns-in_err-say-in-Next-clause-probes : goal.returns-in_err-say-in-Next-clause-probes
returns-in_err-say-in-Next-clause-probes g c told =
    let p = err_from_is_err_and c.from_residual-in_err-say-in-Next.result c.from_residual-in_err-say-in-Next.ensures.1 in
    let asks = c.steps.invariant.asks told in
    let heard = c.in_ok-turn.ensures.hears told c.args.place.now asks.1 asks.3 in
    let leads = size_step c.args.place.now asks.0 c.steps.step heard.0 _ asks.4 heard.2 in
    let used : List Exchange = asks.0 ++ heard.0 ∷ [] in
    let next = subst (λ (t : FtpTurn). LeadsToSize c.args.place.now used (size_dialogue_behind t)) c.in-Next.is leads in (
      used,
      same_gains _ _ _ used (c.in_err-say-in-Next.ensures.none told) (more_gains _ asks.1 _ asks.0 heard.0 heard.1 asks.2),
      rw (p.1, p.2) (size_fails c.args.place.now used c.in-Next.next _ _ next c.in_err-say-in-Next.ensures.fails),
    )

pub returns-in_err-say-in-Next-clause-answered : goal.returns-in_err-say-in-Next-clause-answered
returns-in_err-say-in-Next-clause-answered g c told before =
    let asks = c.steps.invariant.asks told in
    keeps_on before _ _ _ (answered_on c.links_keep_answers.ensures.few before _ _ _ asks.1 asks.0 asks.2 (c.steps.invariant.answered told before)
    (λ behind. c.in_ok-turn.ensures.answered told c.args.place.now before asks.1 asks.3 behind))
    (c.in_err-say-in-Next.ensures.answered told before)

pub returns-in-Sized-clause-probes : goal.returns-in-Sized-clause-probes
returns-in-Sized-clause-probes g c told =
    let asks = c.steps.invariant.asks told in
    let heard = c.in_ok-turn.ensures.hears told c.args.place.now asks.1 asks.3 in
    let leads = size_step c.args.place.now asks.0 c.steps.step heard.0 _ asks.4 heard.2 in
    let used : List Exchange = asks.0 ++ heard.0 ∷ [] in
    let next = subst (λ (t : FtpTurn). LeadsToSize c.args.place.now used (size_dialogue_behind t)) c.in-Sized.is leads in
    (used, more_gains _ asks.1 _ asks.0 heard.0 heard.1 asks.2, size_found c.args.place.now used _ next)

pub returns-in-Sized-clause-answered : goal.returns-in-Sized-clause-answered
returns-in-Sized-clause-answered g c told before =
    let asks = c.steps.invariant.asks told in
    answered_on c.links_keep_answers.ensures.few before _ _ _ asks.1 asks.0 asks.2 (c.steps.invariant.answered told before)
    (λ behind. c.in_ok-turn.ensures.answered told c.args.place.now before asks.1 asks.3 behind)

pub returns-in-Lost-clause-probes : goal.returns-in-Lost-clause-probes
returns-in-Lost-clause-probes g c told =
    let asks = c.steps.invariant.asks told in
    let heard = c.in_ok-turn.ensures.hears told c.args.place.now asks.1 asks.3 in
    let leads = size_step c.args.place.now asks.0 c.steps.step heard.0 _ asks.4 heard.2 in
    let used : List Exchange = asks.0 ++ heard.0 ∷ [] in
    let next = subst (λ (t : FtpTurn). LeadsToSize c.args.place.now used (size_dialogue_behind t)) c.in-Lost.is leads in
    let own = subst (λ (t : FtpTurn). FollowsStep c.steps.step t) c.in-Lost.is c.in_ok-turn.ensures.follows in
    (used, more_gains _ asks.1 _ asks.0 heard.0 heard.1 asks.2, size_refused c.args.place.now used _ _ next own.1)

pub returns-in-Lost-clause-answered : goal.returns-in-Lost-clause-answered
returns-in-Lost-clause-answered g c told before =
    let asks = c.steps.invariant.asks told in
    answered_on c.links_keep_answers.ensures.few before _ _ _ asks.1 asks.0 asks.2 (c.steps.invariant.answered told before)
    (λ behind. c.in_ok-turn.ensures.answered told c.args.place.now before asks.1 asks.3 behind)

pub returns-in-Dials-clause-probes : goal.returns-in-Dials-clause-probes
returns-in-Dials-clause-probes g c told =
    let asks = c.steps.invariant.asks told in
    let heard = c.in_ok-turn.ensures.hears told c.args.place.now asks.1 asks.3 in
    let leads = size_step c.args.place.now asks.0 c.steps.step heard.0 _ asks.4 heard.2 in
    let used : List Exchange = asks.0 ++ heard.0 ∷ [] in
    let next = subst (λ (t : FtpTurn). LeadsToSize c.args.place.now used (size_dialogue_behind t)) c.in-Dials.is leads in
    (used, more_gains _ asks.1 _ asks.0 heard.0 heard.1 asks.2, size_found c.args.place.now used _ next)

pub returns-in-Dials-clause-answered : goal.returns-in-Dials-clause-answered
returns-in-Dials-clause-answered g c told before =
    let asks = c.steps.invariant.asks told in
    answered_on c.links_keep_answers.ensures.few before _ _ _ asks.1 asks.0 asks.2 (c.steps.invariant.answered told before)
    (λ behind. c.in_ok-turn.ensures.answered told c.args.place.now before asks.1 asks.3 behind)

pub returns-in-Opens-clause-probes : goal.returns-in-Opens-clause-probes
returns-in-Opens-clause-probes g c told =
    let asks = c.steps.invariant.asks told in
    let heard = c.in_ok-turn.ensures.hears told c.args.place.now asks.1 asks.3 in
    let leads = size_step c.args.place.now asks.0 c.steps.step heard.0 _ asks.4 heard.2 in
    let used : List Exchange = asks.0 ++ heard.0 ∷ [] in
    let next = subst (λ (t : FtpTurn). LeadsToSize c.args.place.now used (size_dialogue_behind t)) c.in-Opens.is leads in
    (used, more_gains _ asks.1 _ asks.0 heard.0 heard.1 asks.2, size_found c.args.place.now used _ next)

pub returns-in-Opens-clause-answered : goal.returns-in-Opens-clause-answered
returns-in-Opens-clause-answered g c told before =
    let asks = c.steps.invariant.asks told in
    answered_on c.links_keep_answers.ensures.few before _ _ _ asks.1 asks.0 asks.2 (c.steps.invariant.answered told before)
    (λ behind. c.in_ok-turn.ensures.answered told c.args.place.now before asks.1 asks.3 behind)
