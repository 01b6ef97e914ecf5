use Rattle.std.proofs.Common.{ℕ, ◌∙◌, ◌-◌, ◌^◌, [], ◌∷◌, ◌++◌, ap, arith, subst, sym, take}
use Rattle.std.specs.Prelude.{Some, min}
use Rattle.std.proofs.lemmas.List.{take_more}
use Rattle.machine_core.specs.RunLegal.{known_lengths}
use Rattle.machine_core.specs.declared.events.Event.{Event}
use Rattle.machine_core.proofs.Begun.{copied_now}
use Rattle.run_report.specs.Sums.{HasSums}
use Rattle.run_report.proofs.Recent.{event_back, stops}
use Rattle.run_report.proofs.speeds.sums_so_late.Goals as goal

pub returns-then-is_old : goal.returns-then-is_old
returns-then-is_old c =
    let m = c.args.machine.now in
    let back = c.loop-back.back in
    let here = event_back c.journal-journal.result.now.events.items m.past c.len-count.result back
    c.unwrap-event.result.now c.journal-journal.ensures.events c.len-count.ensures (omega arith)
    (copied_now c.get.result c.unwrap-event.result _ c.unwrap-event.ensures c.get.ensures) in record {
      each = λ gid. c.loop-back.invariant.each gid
          ∙ ap (λ (n : ℕ). min n (2 ^ 64 - 1))
          (stops m.start m.past (known_lengths m.start m.past) (Some gid) c.args.now back c.unwrap-event.result.now
          c.journal-journal.ensures.legal here.0 here.1 (sym c.is_old.ensures ∙ c.if-is_old.true));
    }

pub loop-back-preserved : goal.loop-back-preserved
loop-back-preserved c =
    let m = c.args.machine.now in
    let back = c.loop-back.back in
    let event = c.unwrap-event.result.now in
    let here = event_back c.journal-journal.result.now.events.items m.past c.len-count.result back event
    c.journal-journal.ensures.events c.len-count.ensures (omega arith)
    (copied_now c.get.result c.unwrap-event.result _ c.unwrap-event.ensures c.get.ensures) in
    let front = take back m.past in
    let longer = take_more m.past back event here.0 ∙ ap (λ (e : Event). front ++ e ∷ []) here.1 in
    subst (HasSums c.add_recent.new.sums (known_lengths m.start m.past) c.args.now) (sym longer)
    (c.in_ok-add_recent.ensures front c.loop-back.invariant)
