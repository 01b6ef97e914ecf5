use Rattle.std.proofs.Common.{refl}
use Rattle.machine_core.proofs.laws.worked_runs_are_told.Goals as goal

pub returns : goal.returns
returns c = record {
  queue_moves = record { active = refl; waiting = refl; next = refl; front = refl; in_place = refl; behind = refl };
  claim_halts = record {
    before = refl;
    paused = refl;
    went_on = refl;
    stopped = refl;
    shut = refl;
    other = refl;
    landed = refl;
    stands = refl;
    ends = refl;
  };
  second_selected = record { second = refl; range = refl; above = refl; first_and_above = refl; all = refl };
  hosts_numbered = record { numbers = refl };
}
