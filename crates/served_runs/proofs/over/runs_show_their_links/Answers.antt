use Rattle.served_runs.proofs.Linked.{shows_links}
use Rattle.served_runs.proofs.over.runs_show_their_links.Goals as goal

pub returns : goal.returns
returns g c limited words gids doors disk olds out ended news out' is =
    shows_links c.losses_come_of_workers.ensures.lost c.losses_come_of_workers.ensures.sized
    c.workers_show_their_link.ensures.lost c.workers_show_their_link.ensures.sized is
