use Rattle.worker_turns.proofs.LoneBound.{solo_turns_bounded}
use Rattle.worker_turns.proofs.SealTurns.{solo_seals}
use Rattle.worker_turns.proofs.laws.solo_turns_are_bounded.Goals as goal

pub returns-clause-seals : goal.returns-clause-seals
returns-clause-seals g c = solo_seals c.runs_follow.ensures g.D.Disk.state

pub returns-clause-turns : goal.returns-clause-turns
returns-clause-turns g c =
    solo_turns_bounded g.D.Disk.state (solo_seals c.runs_follow.ensures g.D.Disk.state) c.lone_turns_are_bounded.ensures
