use Rattle.std.proofs.Common.{◌≡◌, true, false, length, refl, sym, ap, ◌∙◌, inl, inr, arith, length-append}
use Rattle.std.proofs.lemmas.Bool.{true≢false}
use Rattle.std.specs.Prelude.{◌⊎◌}
use Rattle.link_source.specs.Link.{LinkState}
use Rattle.ftp_link.proofs.CallLemmas.{call_reads, call_loses}
use Rattle.ftp_link.proofs.StepLemmas.{keeps_on}
use Rattle.ftp_link.proofs.talk.FtpTalk.read.Goals as goal

pub returns-in-Err-clause-reads : goal.returns-in-Err-clause-reads
returns-in-Err-clause-reads g c told place part before used bytes is gains =
    let steps = c.in-Err.ensures.steps told before used bytes is.has_talked gains in (
      steps.0,
      steps.1,
      call_loses place part _ before used _ _ bytes steps.0 c.args.allow _ _ _ (c.take_turns.ensures.place ∙ is.place_is)
          (c.take_turns.ensures.part ∙ is.part_is) c.take_turns.ensures.few (ap (λ (l : LinkState). l.exchanges) (c.hang_up.ensures.closed told))
          c.hang_up.ensures.faults steps.2,
    )

pub returns-in-Err-clause-answered : goal.returns-in-Err-clause-answered
returns-in-Err-clause-answered g c told before used bytes is gains since few =
    keeps_on since _ _ _ (c.in-Err.ensures.answered told before used bytes is gains since few)
    (c.links_keep_answers.ensures.hang_up since _ _ (c.hang_up.ensures.closed told))

pub returns-then-not-is_over-clause-reads : goal.returns-then-not-is_over-clause-reads
returns-then-not-is_over-clause-reads g c told place part before used bytes is gains =
    let steps = c.in_default.ensures.steps told before used bytes is.has_talked gains in
    let long = ap length steps.1 in
    let full : (false ≡ true) ⊎ ((length steps.0 ≡ c.args.room) ⊎ (c.take_turns.new.self.taken ≡ c.args.allow)) = elim c.in_default.ensures.full [
      | inl over ↦ absurd (true≢false (sym (c.is_over.ensures.1 over) ∙ c.if-not-is_over.true))
      | inr (inl most) ↦ inr (inl (omega (arith, most, long, length-append c.args.out.now.items steps.0, c.take_turns.ensures.len)))
      | inr (inr spent) ↦ inr (inr spent)
    ] in (
      steps.0,
      steps.1,
      call_reads place part _ before used _ _ bytes steps.0 c.args.room c.args.allow false (c.take_turns.ensures.place ∙ is.place_is)
          (c.take_turns.ensures.part ∙ is.part_is) c.take_turns.ensures.few refl (λ never. cc) full steps.2,
    )

pub returns-clause-reads : goal.returns-clause-reads
returns-clause-reads g c told place part before used bytes is gains =
    let steps = c.in_default.ensures.steps told before used bytes is.has_talked gains in (
      steps.0,
      steps.1,
      call_reads place part _ before used _ _ bytes steps.0 c.args.room c.args.allow true (c.take_turns.ensures.place ∙ is.place_is)
          (c.take_turns.ensures.part ∙ is.part_is) c.take_turns.ensures.few (ap (λ (l : LinkState). l.exchanges) (c.hang_up-2.ensures.closed told)) (λ _. c.is_over.ensures.0 c.if-not-is_over.false)
          (inl refl) steps.2,
    )

pub returns-clause-answered : goal.returns-clause-answered
returns-clause-answered g c told before used bytes is gains since few =
    keeps_on since _ _ _ (c.in_default.ensures.answered told before used bytes is gains since few)
    (c.links_keep_answers.ensures.hang_up since _ _ (c.hang_up-2.ensures.closed told))
