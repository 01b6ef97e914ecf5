use Rattle.served_runs.proofs.CompletedUris.{completes_uris}
use Rattle.served_runs.proofs.over.runs_complete_uris.Goals as goal

pub returns : goal.returns
returns g c limited words gids doors disk olds out ended news out' is =
    completes_uris (record {
      append = c.turns_tell_runs.ensures.appended;
      stay = c.downloads_stay.ensures.downloads;
      lines = c.lines_are_one.ensures;
      faithful = c.runs_are_faithful.ensures;
      right = c.runs_tell_right_lengths.ensures;
      complete = c.unlisted_downloads_only_complete.ensures;
      whole = c.unlisted_complete_downloads_are_whole.ensures;
      disk = c.runs_show_their_disk.ensures;
      done = c.finished_runs_are_done.ensures;
      shown = c.runs_end_as_shown.ensures;
      shows = c.runs_show_their_links.ensures;
    }) is
