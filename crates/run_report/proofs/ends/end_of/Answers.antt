use Rattle.std.proofs.Common.{◌∙◌, arith, sym}
use Rattle.machine_core.proofs.Begun.{copied_now}
use Rattle.run_report.specs.Failures.{end_by}
use Rattle.run_report.proofs.NewestEnds.{first_here, none_more}
use Rattle.run_report.proofs.Recent.{event_back}
use Rattle.run_report.proofs.ends.end_of.Goals as goal

pub returns-in-Some : goal.returns-in-Some
returns-in-Some c =
    let m = c.args.machine.now in
    let back = c.loop-back.back in
    let here = event_back c.journal-journal.result.now.events.items m.past c.len-count.result back
    c.unwrap-event.result.now c.journal-journal.ensures.events c.len-count.ensures (omega arith)
    (copied_now c.get.result c.unwrap-event.result _ c.unwrap-event.ensures c.get.ensures) in
    sym (first_here (end_by c.args.gid) m.past back c.unwrap-event.result.now c.in-Some.end c.loop-back.invariant here.0
    here.1 (sym c.end_by.ensures ∙ c.in-Some.is))

pub loop-back-preserved : goal.loop-back-preserved
loop-back-preserved c =
    let m = c.args.machine.now in
    let back = c.loop-back.back in
    let here = event_back c.journal-journal.result.now.events.items m.past c.len-count.result back
    c.unwrap-event.result.now c.journal-journal.ensures.events c.len-count.ensures (omega arith)
    (copied_now c.get.result c.unwrap-event.result _ c.unwrap-event.ensures c.get.ensures) in
    none_more (end_by c.args.gid) m.past back c.unwrap-event.result.now c.loop-back.invariant here.0 here.1
    (sym c.end_by.ensures ∙ c.in_default.is)
