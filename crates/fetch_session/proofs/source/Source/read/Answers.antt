use Rattle.std.proofs.Common.{◌++◌, [], length, refl, sym, ap, append-nil, ◌∙◌, arith, append_assoc, length-append, rules, inl, inr}
use Rattle.std.proofs.lemmas.Bool.{true≢false}
use Rattle.std.proofs.lemmas.Result.{err_from_is_err_and}
use Rattle.fetch_session.proofs.PartSteps.{reads_none, reads_more, reads_lose, reads_end, asks_within}
use Rattle.fetch_session.proofs.source.Source.read.Goals as goal

pub returns-in_err-came-clause-reads : goal.returns-in_err-came-clause-reads
returns-in_err-came-clause-reads g c told parts before used bytes is gains =
    let p = err_from_is_err_and c.from_residual.result c.from_residual.ensures.1 in
    let far = c.turns.invariant.steps told parts before used bytes is gains in
    let last = c.in_err-came.ensures.steps told parts before far.2.later (bytes ++ far.0) far.2.source_is far.2.gains in (
      far.0 ++ last.0,
      last.1 ∙ ap (λ items. items ++ last.0) far.1 ∙ append_assoc c.args.out.now.items far.0 last.0,
      rw (p.1, p.2) (reads_lose parts before used bytes _ _ far.0 last.0 c.args.room c.args.allow _ _ _ _ _ far.2 c.turn.ensures.few last.2),
    )

pub returns-clause-reads : goal.returns-clause-reads
returns-clause-reads g c told parts before used bytes is gains =
    let far = c.turns.invariant.steps told parts before used bytes is gains in
    let long = ap length far.1 in
    let all = length-append c.args.out.now.items far.0 in (
      far.0,
      far.1,
      reads_end parts before used bytes _ far.0 c.args.room c.args.allow c.turns.self c.turns.came c.is_over.result far.2
          c.turns.invariant.few (omega (arith, c.turns.invariant.within, long, all)) c.requires.some_room c.requires.some
          (elim (c.goes_on.ensures.off c.turns-test.false) [
            | inl undone ↦ inl undone
            | inr (inl none) ↦ inr (inl none)
            | inr (inr (inl full)) ↦ inr (inr (inl (omega (arith, full, c.turns.invariant.gained_is, long, all))))
            | inr (inr (inr took)) ↦ inr (inr (inr took))
          ]) c.is_over.ensures.over c.is_over.ensures.left,
    )

pub returns-in_err-came-clause-answered : goal.returns-in_err-came-clause-answered
returns-in_err-came-clause-answered g c told parts before used bytes is gains old were =
    let far = c.turns.invariant.steps told parts before used bytes is gains in
    c.turn.ensures.answered told parts before far.2.later (bytes ++ far.0) far.2.source_is far.2.gains old
    (c.turns.invariant.answered told parts before used bytes is gains old were)

pub returns-in_err-came-clause-whole : goal.returns-in_err-came-clause-whole
returns-in_err-came-clause-whole g c told parts before used bytes is gains were =
    let far = c.turns.invariant.steps told parts before used bytes is gains in
    c.turn.ensures.whole told parts before far.2.later (bytes ++ far.0) far.2.source_is far.2.gains
    (c.turns.invariant.whole told parts before used bytes is gains were)

pub turns-init : goal.turns-init
turns-init g c = record {
  few = search rules;
  gained_is = search rules;
  within = search rules;
  capacity = search rules;
  faults = search rules;
  steps = λ told parts before used bytes is gains. (
    [],
    sym (append-nil c.args.out.now.items),
    reads_none parts before used bytes _ c.args.room c.args.allow c.args.self.now _ refl refl refl refl is gains,
  );
  answered = λ told parts before used bytes is gains old were. were;
  whole = λ told parts before used bytes is gains were. were;
  untouched = λ url asks unusable. (refl, refl, asks, refl, refl, refl);
  may = c.requires.may;
}

pub turns-preserved : goal.turns-preserved
turns-preserved g c = record {
  few = search rules;
  gained_is = search rules;
  within = search rules;
  capacity = search rules;
  faults = search rules;
  steps = λ told parts before used bytes is gains.
      let far = c.turns.invariant.steps told parts before used bytes is gains in
      let last = c.in_ok-came.ensures.steps told parts before far.2.later (bytes ++ far.0) far.2.source_is far.2.gains in
      let on = c.goes_on.ensures.on c.turns-test.true in
      let long = ap length far.1 in
      let all = length-append c.args.out.now.items far.0 in (
        far.0 ++ last.0,
        last.1 ∙ ap (λ items. items ++ last.0) far.1 ∙ append_assoc c.args.out.now.items far.0 last.0,
        reads_more parts before used bytes _ _ far.0 last.0 c.args.room _ c.args.allow _ _ _ _ far.2
            (omega (arith, on.2, c.turns.invariant.gained_is, long, all)) last.2,
      );
  answered = λ told parts before used bytes is gains old were.
      let far = c.turns.invariant.steps told parts before used bytes is gains in
      c.turn.ensures.answered told parts before far.2.later (bytes ++ far.0) far.2.source_is far.2.gains old
      (c.turns.invariant.answered told parts before used bytes is gains old were);
  whole = λ told parts before used bytes is gains were.
      let far = c.turns.invariant.steps told parts before used bytes is gains in
      c.turn.ensures.whole told parts before far.2.later (bytes ++ far.0) far.2.source_is far.2.gains
      (c.turns.invariant.whole told parts before used bytes is gains were);
  untouched = λ url asks unusable.
      let was = c.turns.invariant.untouched url asks unusable in
      absurd (c.in_ok-came.ensures.usable url was.2 unusable);
  may = c.in_ok-came.ensures.may;
}

pub returns-in_err-came-clause-untouched : goal.returns-in_err-came-clause-untouched
returns-in_err-came-clause-untouched g c url asks unusable =
    let was = c.turns.invariant.untouched url asks unusable in
    let now = c.turn.ensures.untouched url was.2 unusable in
    (now.0 ∙ was.0, now.1 ∙ was.1)

pub returns-clause-untouched : goal.returns-clause-untouched
returns-clause-untouched g c url asks unusable =
    let was = c.turns.invariant.untouched url asks unusable in
    (was.0, was.1)

pub returns-clause-usable : goal.returns-clause-usable
returns-clause-usable g c url asks unusable =
    let was = c.turns.invariant.untouched url asks unusable in
    elim (c.goes_on.ensures.off c.turns-test.false) [
      | inl undone ↦ true≢false (sym was.5 ∙ undone)
      | inr (inl none) ↦ omega (arith, none, asks_within c.turns.self url was.2)
      | inr (inr (inl full)) ↦ omega (arith, full, was.3, c.requires.some_room)
      | inr (inr (inr all)) ↦ omega (arith, all, was.4, c.requires.some)
    ]
