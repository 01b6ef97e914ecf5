use Rattle.std.proofs.Common.{◌++◌, List, ℕ, length, refl, ap, subst, ◌∙◌, arith, append_assoc, length-append, rules, inl, inr}
use Rattle.std.proofs.lemmas.Result.{err_from_is_err_and}
use Rattle.request_chain.specs.Chains.{IsChain}
use Rattle.request_chain.specs.Courses.{AsksAt}
use Rattle.request_chain.proofs.CallLemmas.{steps_lose, unchecked_loses, call_reads}
use Rattle.request_chain.proofs.ReadingLemmas.{reading_brought}
use Rattle.request_chain.proofs.chain.Chain.read.Goals as goal

pub returns-in_err-turn-clause-reads : goal.returns-in_err-turn-clause-reads
returns-in_err-turn-clause-reads g c told parts before used bytes is gains =
    let p = err_from_is_err_and c.from_residual.result c.from_residual.ensures.1 in
    let so_far = c.turns.invariant.steps told parts before used bytes is gains in
    let last = c.in_err-turn.ensures.steps told parts before so_far.2.later (bytes ++ so_far.0) so_far.2.chain_is so_far.2.gains in (
      so_far.0 ++ last.0,
      last.1 ∙ ap (λ items. items ++ last.0) so_far.1 ∙ append_assoc c.args.out.now.items so_far.0 last.0,
      rw (p.1, p.2) (steps_lose parts before used _ _ bytes so_far.0 last.0 c.args.allow _ _ _ _ so_far.2 last.2 c.turn.ensures.few),
    )

pub returns-in_err-check-clause-reads : goal.returns-in_err-check-clause-reads
returns-in_err-check-clause-reads g c told parts before used bytes is gains =
    let p = err_from_is_err_and c.from_residual-in_err-check.result c.from_residual-in_err-check.ensures.1 in
    let so_far = c.turns.invariant.steps told parts before used bytes is gains in
    (so_far.0, so_far.1, rw (p.1, p.2) (unchecked_loses parts before used _ bytes so_far.0 c.args.allow _ _ _ so_far.2 c.in_err-check.ensures.lost c.turns.invariant.few))

pub returns-clause-reads : goal.returns-clause-reads
returns-clause-reads g c told parts before used bytes is gains =
    let so_far = c.turns.invariant.steps told parts before used bytes is gains in
    let chain_is = so_far.2.chain_is in
    let long = ap length so_far.1 in
    let parts_long = length-append c.args.out.now.items so_far.0 in
    let brought = reading_brought c.streams_have_one_answer.ensures.grow c.final_heads_are_one_and_stay.ensures.stays parts so_far.2.later c.turns.self.course (bytes ++ so_far.0) c.turns.self.stage c.turns.self.room.inbox
    chain_is.reading chain_is.behind c.in_ok-check.ensures.due in (
      so_far.0,
      so_far.1,
      call_reads parts before used _ _ bytes so_far.0 c.args.room c.args.allow c.turns.gained c.turns.self c.is_over.result so_far.2
          refl c.turns.invariant.few (omega (arith, c.turns.invariant.within)) (omega (arith, c.turns.invariant.gained_is))
          (c.goes_on.ensures.off c.turns-test.false) c.is_over.ensures.over c.is_over.ensures.asking brought,
    )

pub returns-in_err-turn-clause-answered : goal.returns-in_err-turn-clause-answered
returns-in_err-turn-clause-answered g c told parts before used bytes is gains since few old were =
    let so_far = c.turns.invariant.steps told parts before used bytes is gains in
    c.turn.ensures.answered told parts before so_far.2.later (bytes ++ so_far.0) so_far.2.chain_is so_far.2.gains since few old
    (c.turns.invariant.answered told parts before used bytes is gains since few old were)

pub returns-in_err-turn-clause-whole : goal.returns-in_err-turn-clause-whole
returns-in_err-turn-clause-whole g c told parts before used bytes is gains were =
    let so_far = c.turns.invariant.steps told parts before used bytes is gains in
    c.turn.ensures.whole told parts before so_far.2.later (bytes ++ so_far.0) so_far.2.chain_is so_far.2.gains

pub turns-preserved : goal.turns-preserved
turns-preserved g c = record {
  few = search rules;
  gained_is = search rules;
  within = search rules;
  capacity = search rules;
  faults = search rules;
  steps = λ told parts before used bytes is gains.
      let so_far = c.turns.invariant.steps told parts before used bytes is gains in
      let last = c.in_ok-turn.ensures.steps told parts before so_far.2.later (bytes ++ so_far.0) so_far.2.chain_is so_far.2.gains in
      let P : List ℕ → Type 0 = λ came. IsChain parts last.2.later came c.turn.new.self in (
        so_far.0 ++ last.0,
        last.1 ∙ ap (λ items. items ++ last.0) so_far.1 ∙ append_assoc c.args.out.now.items so_far.0 last.0,
        record {
          later = last.2.later;
          gains = last.2.gains;
          taken_is = omega (arith, so_far.2.taken_is, last.2.taken_is);
          chain_is = subst P (append_assoc bytes so_far.0 last.0) last.2.chain_is;
        },
      );
  answered = λ told parts before used bytes is gains since few old were.
      let so_far = c.turns.invariant.steps told parts before used bytes is gains in
      c.turn.ensures.answered told parts before so_far.2.later (bytes ++ so_far.0) so_far.2.chain_is so_far.2.gains since few old
      (c.turns.invariant.answered told parts before used bytes is gains since few old were);
  whole = λ told parts before used bytes is gains were.
      let so_far = c.turns.invariant.steps told parts before used bytes is gains in
      c.turn.ensures.whole told parts before so_far.2.later (bytes ++ so_far.0) so_far.2.chain_is so_far.2.gains;
  untouched = λ url asks unusable.
      let was = c.turns.invariant.untouched url asks unusable in
      absurd (c.in_ok-turn.ensures.usable url was.2 unusable);
  may = c.in_ok-turn.ensures.may;
}

pub returns-in_err-turn-clause-untouched : goal.returns-in_err-turn-clause-untouched
returns-in_err-turn-clause-untouched g c url asks unusable =
    let was = c.turns.invariant.untouched url asks unusable in
    let now = c.turn.ensures.untouched url was.2 unusable in
    (now.0 ∙ was.0, now.1 ∙ was.1)

pub returns-in_err-check-clause-untouched : goal.returns-in_err-check-clause-untouched
returns-in_err-check-clause-untouched g c url asks unusable =
    let was = c.turns.invariant.untouched url asks unusable in
    (was.0, was.1)

pub returns-clause-untouched : goal.returns-clause-untouched
returns-clause-untouched g c url asks unusable =
    let was = c.turns.invariant.untouched url asks unusable in
    (was.0, was.1)

pub returns-clause-usable : goal.returns-clause-usable
returns-clause-usable g c url asks unusable =
    let was = c.turns.invariant.untouched url asks unusable in
    elim (c.goes_on.ensures.off c.turns-test.false) [
      | inl over ↦ subst (λ plan. AsksAt plan url) over was.2.1
      | inr (inl full) ↦ omega (arith, full, was.3, c.requires.some_room)
      | inr (inr all) ↦ omega (arith, all.0, was.4, c.requires.some)
    ]
