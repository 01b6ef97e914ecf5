use Rattle.std.proofs.Common.{false}
use Rattle.shared_run.proofs.Doors.{shows_doors}
use Rattle.shared_run.proofs.Framed.{whole}
use Rattle.shared_run.proofs.Over.{over}
use Rattle.shared_run.proofs.Untouched.{leaves_links}
use Rattle.shared_run.proofs.running.run_shared.Goals as goal

pub returns-clause-ending : goal.returns-clause-ending
returns-clause-ending g c = c.runs_end_as_shown.ensures _ _ _ _ _ _ _ (whole c.run_through-ended.ensures)

pub returns-clause-output : goal.returns-clause-output
returns-clause-output g c = c.runs_print_one_text.ensures _ _ _ _ _ _ _ (whole c.run_through-ended.ensures)

pub returns-clause-history : goal.returns-clause-history
returns-clause-history g c =
    c.linked_runs_have_histories.ensures false _ _ _ _ _ _ _ _ _ (over c.requires.links.0 c.run_through-ended.ensures)

pub returns-clause-disk : goal.returns-clause-disk
returns-clause-disk g c = c.runs_show_their_disk.ensures _ _ _ _ _ _ _ (whole c.run_through-ended.ensures)

pub returns-clause-others : goal.returns-clause-others
returns-clause-others g c =
    c.linked_runs_leave_other_files.ensures false _ _ _ _ _ _ _ _ _ (over c.requires.links.0 c.run_through-ended.ensures)

pub returns-clause-survives : goal.returns-clause-survives
returns-clause-survives g c =
    c.linked_runs_survive_crashes.ensures false _ _ _ _ _ _ _ _ _ (over c.requires.links.0 c.run_through-ended.ensures)

pub returns-clause-links : goal.returns-clause-links
returns-clause-links g c =
    c.runs_show_their_links.ensures false _ _ _ _ _ _ _ _ _ (over c.requires.links.0 c.run_through-ended.ensures)

pub returns-clause-untouched : goal.returns-clause-untouched
returns-clause-untouched g c =
    leaves_links (c.begun_runs_are_stopped.ensures _ _ _ _ _ _ _) c.turns_bring_what_came.ensures.links
    (c.unbegun_runs_only_read.ensures _ _ _ _ _ _ _ (whole c.run_through-ended.ensures)) c.run_through-ended.ensures

pub returns-clause-doors : goal.returns-clause-doors
returns-clause-doors g c =
    shows_doors c.turns_tell_runs.ensures.appended c.replies_are_of_the_history.ensures c.calls_stand_where_replied.ensures
    c.doors_tell_notices.ensures c.run_through-ended.ensures

pub returns-clause-marks : goal.returns-clause-marks
returns-clause-marks g c =
    c.runs_spare_serving_mirrors.ensures false _ _ _ _ _ _ _ _ _ (over c.requires.links.0 c.run_through-ended.ensures)

pub returns-clause-completes : goal.returns-clause-completes
returns-clause-completes g c =
    c.runs_complete_what_is_served.ensures false _ _ _ _ _ _ _ _ _ (over c.requires.links.0 c.run_through-ended.ensures)
    c.requires.links.0

pub returns-clause-completes_uris : goal.returns-clause-completes_uris
returns-clause-completes_uris g c =
    c.runs_complete_uris.ensures false _ _ _ _ _ _ _ _ _ (over c.requires.links.0 c.run_through-ended.ensures)
    c.requires.links.0

pub returns-clause-unfinished : goal.returns-clause-unfinished
returns-clause-unfinished g c =
    c.runs_show_why_unfinished.ensures false _ _ _ _ _ _ _ _ _ (over c.requires.links.0 c.run_through-ended.ensures)
    c.requires.links.0

pub returns-clause-over : goal.returns-clause-over
returns-clause-over g c = over c.requires.links.0 c.run_through-ended.ensures
