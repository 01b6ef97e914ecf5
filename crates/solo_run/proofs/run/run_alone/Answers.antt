use Rattle.std.proofs.Common.{◌≡◌, ap, ◌∙◌, slice_index_or, slice_set, subst, arith}
use Rattle.std.specs.Prelude.{true, IsTrue, map, string_bytes}
use Rattle.served_runs.specs.Completes.{CompletesServed}
use Rattle.served_runs.specs.CompletesUris.{CompletesUris}
use Rattle.served_runs.specs.Over.{IsRunOver}
use Rattle.served_runs.specs.Served.{SparesServing}
use Rattle.served_runs.specs.Unfinished.{ShowsUnfinished}
use Rattle.solo_run.specs.Pieces.{CompletesPieces}
use Rattle.solo_run.specs.Bounded.{BoundsFirst}
use Rattle.solo_run.specs.Runs.{RunsOver}
use Rattle.solo_run.proofs.BoundedFirst.{bounds_first}
use Rattle.solo_run.proofs.Framed.{whole}
use Rattle.solo_run.proofs.OneLink.{of_first_alone, over, over_doors, over_its_one, shows_one}
use Rattle.solo_run.proofs.Used.{leaves_unused, of_first, unused_pair}
use Rattle.solo_run.proofs.run.run_alone.Goals as goal

pub returns-clause-does : goal.returns-clause-does
returns-clause-does g c link others is =
    let came = c.run_over-ending in
    let pair = c.index_mut.result.now in
    let first : pair ≡ link = c.index_mut.ensures.value ∙ ap (λ items. slice_index_or items 0 pair) is in
    record {
      link' = (came.new.link, came.new.clock);
      links_are = ap (λ items. slice_set items 0 (came.new.link, came.new.clock)) is;
      runs = subst
          (λ used. RunsOver g.D.Disk g.L.Links g.K.Clock g.O.Sink
          (map string_bytes c.args.words.now) c.args.gids c.args.disk used
          c.args.out.now came.result (came.new.link, came.new.clock) came.new.out)
          first came.ensures;
      unused = λ none.
          unused_pair pair (came.new.link, came.new.clock) came.ensures
          (c.begun_runs_are_stopped.ensures _ _ _ _ _ _ _) none
          ∙ first;
    }

pub returns-clause-ending : goal.returns-clause-ending
returns-clause-ending g c = c.runs_end_as_shown.ensures _ _ _ _ _ _ _ (whole c.run_over-ending.ensures)

pub returns-clause-output : goal.returns-clause-output
returns-clause-output g c = c.runs_print_one_text.ensures _ _ _ _ _ _ _ (whole c.run_over-ending.ensures)

pub returns-clause-history : goal.returns-clause-history
returns-clause-history g c =
    c.linked_runs_have_histories.ensures true _ _ _ _ _ _ _ _ _
    (over c.index_mut.result.now (c.run_over-ending.new.link, c.run_over-ending.new.clock) c.run_over-ending.ensures)

pub returns-clause-disk : goal.returns-clause-disk
returns-clause-disk g c = c.runs_show_their_disk.ensures _ _ _ _ _ _ _ (whole c.run_over-ending.ensures)

pub returns-clause-others : goal.returns-clause-others
returns-clause-others g c =
    c.linked_runs_leave_other_files.ensures true _ _ _ _ _ _ _ _ _
    (over c.index_mut.result.now (c.run_over-ending.new.link, c.run_over-ending.new.clock) c.run_over-ending.ensures)

pub returns-clause-survives : goal.returns-clause-survives
returns-clause-survives g c =
    c.linked_runs_survive_crashes.ensures true _ _ _ _ _ _ _ _ _
    (over c.index_mut.result.now (c.run_over-ending.new.link, c.run_over-ending.new.clock) c.run_over-ending.ensures)

pub returns-clause-link : goal.returns-clause-link
returns-clause-link g c =
    let pair = c.index_mut.result.now in
    of_first _ _ pair (c.run_over-ending.new.link, c.run_over-ending.new.clock) c.index_mut.ensures.value
    (shows_one _ pair (c.run_over-ending.new.link, c.run_over-ending.new.clock)
    (c.runs_show_their_links.ensures true _ _ _ _ _ _ _ _ _
    (over pair (c.run_over-ending.new.link, c.run_over-ending.new.clock) c.run_over-ending.ensures)))

pub returns-clause-marks : goal.returns-clause-marks
returns-clause-marks g c =
    let pair = c.index_mut.result.now in
    of_first_alone
    (λ olds news. IsTrue g.L.Links.tells → SparesServing g.D.Disk g.L.Links (map string_bytes c.args.words.now)
    c.args.gids 0 olds news c.run_over-ending.result)
    _ pair (c.run_over-ending.new.link, c.run_over-ending.new.clock) c.requires c.index_mut.ensures.value
    (c.runs_spare_serving_mirrors.ensures true _ _ _ _ _ _ _ _ _
    (over pair (c.run_over-ending.new.link, c.run_over-ending.new.clock) c.run_over-ending.ensures))

pub returns-clause-unfinished : goal.returns-clause-unfinished
returns-clause-unfinished g c =
    let pair = c.index_mut.result.now in
    of_first_alone
    (λ olds news. ShowsUnfinished true g.L.Links (map string_bytes c.args.words.now) c.args.gids 0 olds news
    c.run_over-ending.result)
    _ pair (c.run_over-ending.new.link, c.run_over-ending.new.clock) c.requires c.index_mut.ensures.value
    (c.runs_show_why_unfinished.ensures true _ _ _ _ _ _ _ _ _
    (over pair (c.run_over-ending.new.link, c.run_over-ending.new.clock) c.run_over-ending.ensures)
    (omega arith))

pub returns-clause-completes : goal.returns-clause-completes
returns-clause-completes g c =
    let pair = c.index_mut.result.now in
    of_first_alone
    (λ olds news. IsTrue g.D.Disk.tells → IsTrue g.L.Links.tells → CompletesServed true g.D.Disk g.L.Links g.O.Sink
    (map string_bytes c.args.words.now) c.args.gids 0 c.args.disk olds c.args.out.now c.run_over-ending.result news
    c.run_over-ending.new.out)
    _ pair (c.run_over-ending.new.link, c.run_over-ending.new.clock) c.requires c.index_mut.ensures.value
    (c.runs_complete_what_is_served.ensures true _ _ _ _ _ _ _ _ _
    (over pair (c.run_over-ending.new.link, c.run_over-ending.new.clock) c.run_over-ending.ensures)
    (omega arith))

pub returns-clause-completes_pieces : goal.returns-clause-completes_pieces
returns-clause-completes_pieces g c =
    let pair = c.index_mut.result.now in
    of_first_alone
    (λ olds news. IsTrue g.D.Disk.tells → IsTrue g.L.Links.tells → CompletesPieces g.D.Disk g.L.Links g.O.Sink
    (map string_bytes c.args.words.now) c.args.gids 0 c.args.disk olds c.args.out.now c.run_over-ending.result news
    c.run_over-ending.new.out)
    _ pair (c.run_over-ending.new.link, c.run_over-ending.new.clock) c.requires c.index_mut.ensures.value
    (c.runs_complete_served_pieces.ensures _ _ _ _ _ _ _ _ _
    (over_its_one pair (c.run_over-ending.new.link, c.run_over-ending.new.clock) c.run_over-ending.ensures))

pub returns-clause-completes_uris : goal.returns-clause-completes_uris
returns-clause-completes_uris g c =
    let pair = c.index_mut.result.now in
    of_first_alone
    (λ olds news. IsTrue g.D.Disk.tells → IsTrue g.L.Links.tells → CompletesUris true g.D.Disk g.L.Links g.O.Sink
    (map string_bytes c.args.words.now) c.args.gids 0 c.args.disk olds c.args.out.now c.run_over-ending.result news
    c.run_over-ending.new.out)
    _ pair (c.run_over-ending.new.link, c.run_over-ending.new.clock) c.requires c.index_mut.ensures.value
    (c.runs_complete_uris.ensures true _ _ _ _ _ _ _ _ _
    (over pair (c.run_over-ending.new.link, c.run_over-ending.new.clock) c.run_over-ending.ensures)
    (omega arith))

pub returns-clause-bounds : goal.returns-clause-bounds
returns-clause-bounds g c =
    let pair = c.index_mut.result.now in
    of_first_alone
    (λ olds news. BoundsFirst g.D.Disk g.O.Sink g.L.Links (map string_bytes c.args.words.now) c.args.gids c.args.disk olds
    c.args.out.now c.run_over-ending.result news c.run_over-ending.new.out)
    _ pair (c.run_over-ending.new.link, c.run_over-ending.new.clock) c.requires c.index_mut.ensures.value
    (bounds_first pair (c.run_over-ending.new.link, c.run_over-ending.new.clock)
    c.runs_over_one_are_bounded.ensures c.run_over-ending.ensures)

pub returns-clause-untouched : goal.returns-clause-untouched
returns-clause-untouched g c =
    leaves_unused c.index_mut.result.now (c.run_over-ending.new.link, c.run_over-ending.new.clock)
    c.run_over-ending.ensures _ c.requires c.index_mut.ensures.value
    (c.begun_runs_are_stopped.ensures _ _ _ _ _ _ _)
    (c.unbegun_runs_only_read.ensures _ _ _ _ _ _ _ (whole c.run_over-ending.ensures))

pub returns-clause-over : goal.returns-clause-over
returns-clause-over g c off doors =
    let pair = c.index_mut.result.now in
    of_first_alone
    (λ olds news. IsRunOver g.D.Disk g.O.Sink true g.L.Links (map string_bytes c.args.words.now) c.args.gids doors c.args.disk
    olds c.args.out.now c.run_over-ending.result news c.run_over-ending.new.out)
    _ pair (c.run_over-ending.new.link, c.run_over-ending.new.clock) c.requires c.index_mut.ensures.value
    (over_doors pair (c.run_over-ending.new.link, c.run_over-ending.new.clock) off doors c.run_over-ending.ensures)
