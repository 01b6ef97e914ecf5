use Rattle.std.proofs.Common.{◌∙◌, ap, subst, sym, take}
use Rattle.std.specs.Prelude.{option_copied, reverse}
use Rattle.run_report.specs.Failures.{HasEnds}
use Rattle.run_report.proofs.Failing.{reverse_take_more}
use Rattle.run_report.proofs.failures.ends_of.Goals as goal

pub loop-place-preserved : goal.loop-place-preserved
loop-place-preserved c =
    let events = c.args.journal.now.events.items in
    let at = sym c.get.ensures ∙ ap option_copied c.unwrap.ensures in
    subst (HasEnds c.note_end.new.ends)
    (sym (reverse_take_more events c.loop-place.place c.unwrap.result.now at))
    (c.in_ok-note_end.ensures (reverse (take c.loop-place.place events)) c.loop-place.invariant)
