use Rattle.run_lifecycle.proofs.Whole.{has_history}
use Rattle.run_lifecycle.proofs.laws.runs_have_whole_histories.Goals as goal

pub returns : goal.returns
returns g c words gids doors disk out ended out' ran last =
    has_history c.turns_tell_runs.ensures.appended c.downloads_stay.ensures.downloads
    c.downloads_go_on_once.ensures.gone ran last
