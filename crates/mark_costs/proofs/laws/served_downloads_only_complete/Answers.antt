use Rattle.mark_costs.proofs.Completing.{served_only_complete}
use Rattle.mark_costs.proofs.laws.served_downloads_only_complete.Goals as goal

pub returns : goal.returns
returns g c =
    served_only_complete c.runs_follow.ensures c.accounts_match_runs.ensures.plans c.known_downloads_are_idle.ensures
    c.plan_laws.ensures.numbered g.D.Disk.state c.served_pieces_never_die.ensures c.lone_downloads_end_well.ensures.ends
    c.brought_downloads_only_complete.ensures.refused
