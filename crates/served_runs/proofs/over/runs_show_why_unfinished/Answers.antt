use Rattle.served_runs.proofs.Unfinished.{shows_unfinished}
use Rattle.served_runs.proofs.over.runs_show_why_unfinished.Goals as goal

pub returns : goal.returns
returns g c limited words gids doors disk olds out ended news out' is some =
    shows_unfinished limited _ c.turns_tell_runs.ensures.appended is some
