use Rattle.std.proofs.Common.{ℕ, ◌≡◌, ◌∙◌, ◌-◌, ◌^◌, get_or, ap, arith, sym}
use Rattle.std.specs.Prelude.{min}
use Rattle.std.proofs.lemmas.List.Sums.{sum_by_more}
use Rattle.machine_core.specs.RunLegal.{known_lengths}
use Rattle.machine_core.proofs.Begun.{copied_now}
use Rattle.run_report.specs.Speeds.{recent_bytes}
use Rattle.run_report.proofs.Recent.{event_back, stops}
use Rattle.run_report.proofs.speeds.bytes_so_late.Goals as goal

pub returns-then-is_old : goal.returns-then-is_old
returns-then-is_old c =
    let m = c.args.machine.now in
    let back = c.loop-back.back in
    let here = event_back c.journal-journal.result.now.events.items m.past c.len-count.result back
    c.unwrap-event.result.now c.journal-journal.ensures.events c.len-count.ensures (omega arith)
    (copied_now c.get.result c.unwrap-event.result _ c.unwrap-event.ensures c.get.ensures) in
    c.loop-back.invariant
    ∙ ap (λ (n : ℕ). min n (2 ^ 64 - 1))
    (stops m.start m.past (known_lengths m.start m.past) c.args.which c.args.now back c.unwrap-event.result.now
    c.journal-journal.ensures.legal here.0 here.1 (sym c.is_old.ensures ∙ c.if-is_old.true))

pub loop-back-preserved : goal.loop-back-preserved
loop-back-preserved c =
    let m = c.args.machine.now in
    let back = c.loop-back.back in
    let here = event_back c.journal-journal.result.now.events.items m.past c.len-count.result back
    c.unwrap-event.result.now c.journal-journal.ensures.events c.len-count.ensures (omega arith)
    (copied_now c.get.result c.unwrap-event.result _ c.unwrap-event.ensures c.get.ensures) in
    let next = sum_by_more (recent_bytes (known_lengths m.start m.past) c.args.which c.args.now) m.past back
    c.unwrap-event.result.now here.0 in
    let brings : recent_bytes (known_lengths m.start m.past) c.args.which c.args.now
    (get_or m.past back c.unwrap-event.result.now) ≡ c.recent_bytes.result =
    ap (recent_bytes (known_lengths m.start m.past) c.args.which c.args.now) here.1 ∙ sym c.recent_bytes.ensures in
    omega (arith, next, brings)
