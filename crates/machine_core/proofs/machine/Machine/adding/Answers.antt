use Rattle.std.proofs.Common.{◌≡◌, ◌∙◌, Option, Some, ap, slice_get, sym}
use Rattle.std.specs.Option.{is_some, option_map}
use Rattle.std.proofs.lemmas.List.Folds.{find_at}
use Rattle.machine_core.specs.MachineParts.{subject_of_event}
use Rattle.machine_core.specs.Reads.{downloads_in}
use Rattle.machine_core.specs.Replays.{is_download}
use Rattle.machine_core.specs.RunLegal.{download_in}
use Rattle.machine_core.specs.Starts.{Download, Subject}
use Rattle.machine_core.proofs.machine.Machine.adding.Goals as goal

pub returns-in-Called-clause-subject : goal.returns-in-Called-clause-subject
returns-in-Called-clause-subject c =
    let found = c.in_ok-place.ensures.found in
    let at : download_in c.args.self.now.start c.args.self.now.past c.args.gid ≡ Some found.download =
    find_at (is_download c.args.gid) (downloads_in c.args.self.now)
    ∙ (ap (slice_get (downloads_in c.args.self.now)) (sym c.in_ok-place.ensures.first) ∙ found.added) in
    sym (ap subject_of_event c.in-Called.is) ∙ c.adding_event.ensures.added found.download found.added
    ∙ sym (ap (option_map (λ (d : Download). d.subject)) at)

pub returns-in-Called-clause-adds : goal.returns-in-Called-clause-adds
returns-in-Called-clause-adds c =
    let found = c.in_ok-place.ensures.found in
    ap (λ (o : Option Subject). is_some o)
    (sym (ap subject_of_event c.in-Called.is) ∙ c.adding_event.ensures.added found.download found.added)
