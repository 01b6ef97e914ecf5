use Rattle.worker_turns.proofs.HoldOnce.{lone_workers_hold_once}
use Rattle.worker_turns.proofs.Lone.{lone_workers}
use Rattle.worker_turns.proofs.laws.lone_workers_claim_once.Goals as goal

pub returns : goal.returns
returns c = record {
  claims = lone_workers c.downloads_stay.ensures.lengths;
  holds = lone_workers_hold_once c.downloads_stay.ensures.lengths c.accounts_match_runs.ensures.accounts
      c.turns_tell_runs.ensures.handed;
}
