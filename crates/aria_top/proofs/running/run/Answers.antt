use Rattle.std.proofs.Common.{inl, inr, ⊎_elim}
use Rattle.aria_top.proofs.Begun.{began_or_not, ending_of, of_events, printed_once, words_first}
use Rattle.aria_top.proofs.Lines.{over, shown, untouched, whole}
use Rattle.aria_top.proofs.OtherWays.{checked, served}
use Rattle.aria_top.proofs.Ways.{bounds_so, does_so, loaded, pieces_so}
use Rattle.aria_top.proofs.running.run.Goals as goal

pub returns-clause-began : goal.returns-clause-began
returns-clause-began g c = began_or_not _ _ _ _ _ _ c.begun_runs_are_stopped.ensures c.by_meaning.ensures

pub returns-clause-refuses : goal.returns-clause-refuses
returns-clause-refuses g c = record {
  words = words_first _ _ _ _ _ _ c.begun_runs_are_stopped.ensures c.by_meaning.ensures;
  file = λ told line error means by_file refused.
      (c.runs_end_as_shown.ensures _ _ _ _ _ _ _
      (whole c.lines_are_one.ensures c.load_words_are_no_line.ensures c.by_meaning.ensures line means)).file_next
      told line error means by_file refused;
}

pub returns-clause-ending : goal.returns-clause-ending
returns-clause-ending g c line begun =
    let run = whole c.lines_are_one.ensures c.load_words_are_no_line.ensures c.by_meaning.ensures line begun.means in
    ending_of line begun _ _ c.lines_are_one.ensures (c.runs_end_as_shown.ensures _ _ _ _ _ _ _ run)
    (c.unbegun_runs_only_read.ensures _ _ _ _ _ _ _ run)

pub returns-clause-output : goal.returns-clause-output
returns-clause-output g c line begun =
    printed_once line begun _ _ (c.runs_print_one_text.ensures _ _ _ _ _ _ _
    (whole c.lines_are_one.ensures c.load_words_are_no_line.ensures c.by_meaning.ensures line begun.means))

pub returns-clause-history : goal.returns-clause-history
returns-clause-history g c line begun =
    of_events line begun (c.linked_runs_have_histories.ensures _ _ _ _ _ _ _ _ _ _
    (over c.lines_are_one.ensures c.load_words_are_no_line.ensures c.by_meaning.ensures line begun.means))

pub returns-clause-disk : goal.returns-clause-disk
returns-clause-disk g c line begun =
    of_events line begun (c.runs_show_their_disk.ensures _ _ _ _ _ _ _
    (whole c.lines_are_one.ensures c.load_words_are_no_line.ensures c.by_meaning.ensures line begun.means))

pub returns-clause-others : goal.returns-clause-others
returns-clause-others g c told line begun =
    of_events line begun (c.linked_runs_leave_other_files.ensures _ _ _ _ _ _ _ _ _ _
    (over c.lines_are_one.ensures c.load_words_are_no_line.ensures c.by_meaning.ensures line begun.means) told)

pub returns-clause-survives : goal.returns-clause-survives
returns-clause-survives g c told line begun =
    of_events line begun (c.linked_runs_survive_crashes.ensures _ _ _ _ _ _ _ _ _ _
    (over c.lines_are_one.ensures c.load_words_are_no_line.ensures c.by_meaning.ensures line begun.means) told)

pub returns-clause-links : goal.returns-clause-links
returns-clause-links g c line begun =
    of_events line begun (c.runs_show_their_links.ensures _ _ _ _ _ _ _ _ _ _
    (over c.lines_are_one.ensures c.load_words_are_no_line.ensures c.by_meaning.ensures line begun.means))

pub returns-clause-marks : goal.returns-clause-marks
returns-clause-marks g c told line begun =
    of_events line begun (c.runs_spare_serving_mirrors.ensures _ _ _ _ _ _ _ _ _ _
    (over c.lines_are_one.ensures c.load_words_are_no_line.ensures c.by_meaning.ensures line begun.means) told)

pub returns-clause-unfinished : goal.returns-clause-unfinished
returns-clause-unfinished g c line means =
    c.runs_show_why_unfinished.ensures _ _ _ _ _ _ _ _ _ _
    (over c.lines_are_one.ensures c.load_words_are_no_line.ensures c.by_meaning.ensures line means) c.requires.links.0

pub returns-clause-completes : goal.returns-clause-completes
returns-clause-completes g c told linked line means =
    c.runs_complete_what_is_served.ensures _ _ _ _ _ _ _ _ _ _
    (over c.lines_are_one.ensures c.load_words_are_no_line.ensures c.by_meaning.ensures line means) c.requires.links.0 told linked

pub returns-clause-completes_uris : goal.returns-clause-completes_uris
returns-clause-completes_uris g c told linked line means =
    c.runs_complete_uris.ensures _ _ _ _ _ _ _ _ _ _
    (over c.lines_are_one.ensures c.load_words_are_no_line.ensures c.by_meaning.ensures line means) c.requires.links.0 told linked

pub returns-clause-completes_pieces : goal.returns-clause-completes_pieces
returns-clause-completes_pieces g c told linked line means alone =
    pieces_so c.lines_are_one.ensures c.load_words_are_no_line.ensures c.by_meaning.ensures line means alone told linked

pub returns-clause-bounds : goal.returns-clause-bounds
returns-clause-bounds g c line means alone =
    bounds_so c.lines_are_one.ensures c.load_words_are_no_line.ensures c.by_meaning.ensures line means alone

pub returns-clause-untouched : goal.returns-clause-untouched
returns-clause-untouched g c line means =
    untouched c.lines_are_one.ensures c.load_words_are_no_line.ensures c.by_meaning.ensures line means

pub returns-clause-doors : goal.returns-clause-doors
returns-clause-doors g c line begun =
    of_events line begun (⊎_elim (λ never. inl never.none) (λ causes. inr causes)
    (shown c.lines_are_one.ensures c.load_words_are_no_line.ensures c.by_meaning.ensures line begun.means))

pub returns-clause-load : goal.returns-clause-load
returns-clause-load g c n ask = loaded c.by_meaning.ensures n ask

pub returns-clause-serves : goal.returns-clause-serves
returns-clause-serves g c line ask = served c.by_meaning.ensures line ask

pub returns-clause-checks : goal.returns-clause-checks
returns-clause-checks g c line ask = checked c.by_meaning.ensures line ask

pub returns-clause-does : goal.returns-clause-does
returns-clause-does g c line begun =
    does_so c.lines_are_one.ensures c.load_words_are_no_line.ensures c.by_meaning.ensures line begun
