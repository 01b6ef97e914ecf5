use Rattle.served_runs.proofs.Spared.{spares_serving}
use Rattle.served_runs.proofs.over.runs_spare_serving_mirrors.Goals as goal

pub returns : goal.returns
returns g c limited words gids doors disk olds out ended news out' is =
    spares_serving c.runs_are_faithful.ensures c.brought_runs_end_well.ensures.told
    c.faithful_mirrors_are_blameless.ensures.findings is
