use Rattle.worker_turns.proofs.LoneBound.{lone_turns_bounded}
use Rattle.worker_turns.proofs.laws.lone_turns_are_bounded.Goals as goal

pub returns : goal.returns
returns c = lone_turns_bounded c.turns_are_bounded.ensures c.lone_workers_claim_once.ensures.claims
    c.lone_workers_claim_once.ensures.holds
