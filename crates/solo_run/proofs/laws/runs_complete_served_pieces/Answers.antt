use Rattle.solo_run.proofs.Pieced.{completes_pieces}
use Rattle.solo_run.proofs.laws.runs_complete_served_pieces.Goals as goal

pub returns : goal.returns
returns g c words gids doors disk old out ended new out' is =
    completes_pieces (record {
      append = c.turns_tell_runs.ensures.appended;
      stay = c.downloads_stay.ensures.downloads;
      lines = c.lines_are_one.ensures;
      complete = c.served_downloads_only_complete.ensures;
      disk = c.runs_show_their_disk.ensures;
      done = c.finished_runs_are_done.ensures;
      alone = c.lone_downloads_end_well.ensures.alone;
      shown = c.runs_end_as_shown.ensures;
      shows = c.runs_show_their_links.ensures;
      right = c.disks_keep_runs.ensures.complete;
      follows = c.runs_follow.ensures;
    }) is
