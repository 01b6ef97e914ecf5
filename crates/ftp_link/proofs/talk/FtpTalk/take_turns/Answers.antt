use Rattle.std.proofs.Common.{◌++◌, ap, ◌∙◌, append_assoc, inl, inr, arith, rules}
use Rattle.std.proofs.lemmas.Result.{err_from_is_err_and}
use Rattle.ftp_link.proofs.CallLemmas.{steps_go_on, steps_lose}
use Rattle.ftp_link.proofs.StepLemmas.{keeps_on}
use Rattle.ftp_link.proofs.talk.FtpTalk.take_turns.Goals as goal

pub turns-preserved : goal.turns-preserved
turns-preserved g c = record {
  few = search rules;
  gained_is = search rules;
  within = search rules;
  capacity = search rules;
  faults = search rules;
  place = search rules;
  part = search rules;
  steps = λ told before used bytes is gains.
      let so_far = c.turns.invariant.steps told before used bytes is gains in
      let last = c.in_ok-turn.ensures.steps told before so_far.2.later (bytes ++ so_far.0) so_far.2.has_talked so_far.2.gains in (
        so_far.0 ++ last.0,
        last.1 ∙ ap (λ items. items ++ last.0) so_far.1 ∙ append_assoc c.args.out.now.items so_far.0 last.0,
        steps_go_on c.turns.self _ before used _ _ bytes so_far.0 last.0 so_far.2 last.2,
      );
  answered = λ told before used bytes is gains since few.
      let so_far = c.turns.invariant.steps told before used bytes is gains in
      keeps_on since _ _ _ (c.turns.invariant.answered told before used bytes is gains since few)
      (c.in_ok-turn.ensures.answered told before so_far.2.later (bytes ++ so_far.0) so_far.2.has_talked so_far.2.gains since few);
  may = c.in_ok-turn.ensures.may;
}

pub returns-in_err-turn-clause-steps : goal.returns-in_err-turn-clause-steps
returns-in_err-turn-clause-steps g c told before used bytes is gains =
    let p = err_from_is_err_and c.from_residual.result c.from_residual.ensures.1 in
    let so_far = c.turns.invariant.steps told before used bytes is gains in
    let last = c.in_err-turn.ensures.steps told before so_far.2.later (bytes ++ so_far.0) so_far.2.has_talked so_far.2.gains in (
      so_far.0 ++ last.0,
      last.1 ∙ ap (λ items. items ++ last.0) so_far.1 ∙ append_assoc c.args.out.now.items so_far.0 last.0,
      rw (p.1, p.2) (steps_lose c.turns.self _ before used _ _ bytes so_far.0 last.0 _ _ so_far.2 last.2),
    )

pub returns-in_err-turn-clause-answered : goal.returns-in_err-turn-clause-answered
returns-in_err-turn-clause-answered g c told before used bytes is gains since few =
    let so_far = c.turns.invariant.steps told before used bytes is gains in
    keeps_on since _ _ _ (c.turns.invariant.answered told before used bytes is gains since few)
    (c.in_err-turn.ensures.answered told before so_far.2.later (bytes ++ so_far.0) so_far.2.has_talked so_far.2.gains since few)

pub returns-clause-full : goal.returns-clause-full
returns-clause-full g c = elim (c.goes_on.ensures.off c.turns-test.false) [
  | inl over ↦ inl over
  | inr (inl full) ↦ inr (inl (omega (arith, full, c.turns.invariant.gained_is, c.turns.invariant.within, c.requires.some_room)))
  | inr (inr spent) ↦ inr (inr (omega (arith, spent, c.turns.invariant.few)))
]
