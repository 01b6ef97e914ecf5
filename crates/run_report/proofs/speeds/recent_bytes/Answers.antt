use Rattle.std.proofs.Common.{Option, ◌∙◌, ap, sym}
use Rattle.std.specs.Option.{unwrap_or}
use Rattle.machine_core.specs.OwnParts.{PayloadLengths, no_lengths}
use Rattle.machine_core.specs.RunLegal.{known_lengths}
use Rattle.run_report.specs.Speeds.{recent_bytes, run_bytes}
use Rattle.run_report.proofs.Recent.{landed_brings}
use Rattle.run_report.proofs.speeds.recent_bytes.Goals as goal

pub returns-else-not-is_recent : goal.returns-else-not-is_recent
returns-else-not-is_recent c =
    let m = c.args.machine.now in
    let run = c.in-Landed.run' in
    c.known_run_bytes.ensures
    ∙ (ap (λ (o : Option PayloadLengths). run_bytes (unwrap_or o no_lengths) run) c.lengths.ensures.known
    ∙ (landed_brings (known_lengths m.start m.past) c.args.which c.args.now c.in-Landed.gid c.in-Landed.claim
    c.in-Landed.mirror run c.in-Landed.moment
    (sym c.counts.ensures ∙ c.if-not-counts.false)
    (sym c.is_recent.ensures ∙ c.if-not-is_recent.false)
    ∙ ap (recent_bytes (known_lengths m.start m.past) c.args.which c.args.now) (sym c.in-Landed.is)))
