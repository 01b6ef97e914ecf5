use Rattle.served_runs.proofs.Endings.{end_well}
use Rattle.served_runs.proofs.ToldRuns.{told_run}
use Rattle.served_runs.proofs.laws.brought_runs_end_well.Goals as goal

pub returns-clause-told : goal.returns-clause-told
returns-clause-told g c words gids doors disk out ended out' ran tells = told_run ran tells

pub returns-clause-ends : goal.returns-clause-ends
returns-clause-ends g c =
    end_well g.D.Disk g.O.Sink c.runs_show_their_disk.ensures c.brought_downloads_only_complete.ensures.complete
