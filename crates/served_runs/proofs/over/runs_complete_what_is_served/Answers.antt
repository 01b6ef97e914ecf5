use Rattle.served_runs.proofs.Completed.{completes_served}
use Rattle.served_runs.proofs.over.runs_complete_what_is_served.Goals as goal

pub returns : goal.returns
returns g c limited words gids doors disk olds out ended news out' is =
    completes_served (record {
      append = c.turns_tell_runs.ensures.appended;
      stay = c.downloads_stay.ensures.downloads;
      lines = c.lines_are_one.ensures;
      faithful = c.runs_are_faithful.ensures;
      well = c.brought_runs_end_well.ensures.ends;
      done = c.finished_runs_are_done.ensures;
      alone = c.lone_downloads_end_well.ensures.alone;
      shown = c.runs_end_as_shown.ensures;
      shows = c.runs_show_their_links.ensures;
      right = c.disks_keep_runs.ensures.complete;
      follows = c.runs_follow.ensures;
    }) is
