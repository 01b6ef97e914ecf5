use Rattle.worker_turns.proofs.FindsOffers.{solo_finds, solo_turns_few}
use Rattle.worker_turns.proofs.InTime.{solo_ends}
use Rattle.worker_turns.proofs.laws.solo_runs_find_offers.Goals as goal

pub returns-clause-offers : goal.returns-clause-offers
returns-clause-offers g c =
    solo_finds c.active_have_offers.ensures c.leisure_is_active.ensures g.D.Disk.state

pub returns-clause-turns : goal.returns-clause-turns
returns-clause-turns g c =
    solo_turns_few g.D.Disk.state
    (solo_finds c.active_have_offers.ensures c.leisure_is_active.ensures g.D.Disk.state) c.solo_runs_are_busy.ensures
    c.solo_turns_are_bounded.ensures.turns

pub returns-clause-ends : goal.returns-clause-ends
returns-clause-ends g c =
    solo_ends g.D.Disk.state (solo_turns_few g.D.Disk.state
    (solo_finds c.active_have_offers.ensures c.leisure_is_active.ensures g.D.Disk.state) c.solo_runs_are_busy.ensures
    c.solo_turns_are_bounded.ensures.turns)
