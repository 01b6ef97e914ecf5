use Rattle.std.proofs.Common.{◌∙◌, ap, sym}
use Rattle.std.specs.Prelude.{option_copied}
use Rattle.std.specs.Option.{option_or}
use Rattle.run_report.specs.Failures.{failure_in}
use Rattle.run_report.proofs.Failing.{found_more}
use Rattle.run_report.proofs.failures.last_failure.Goals as goal

pub loop-place-preserved : goal.loop-place-preserved
loop-place-preserved c =
    let at = sym c.get.ensures ∙ ap option_copied c.unwrap-event.ensures in
    c.or-last.ensures ∙ ap (λ o. option_or o c.loop-place.last) c.failure_in.ensures
    ∙ found_more failure_in c.args.journal.now.events.items c.loop-place.place c.unwrap-event.result.now
    c.loop-place.last at c.loop-place.invariant
