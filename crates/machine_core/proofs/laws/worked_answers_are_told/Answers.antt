use Rattle.std.proofs.Common.{refl}
use Rattle.machine_core.proofs.laws.worked_answers_are_told.Goals as goal

pub returns : goal.returns
returns c = record {
  gids_made = record { first = refl; second = refl; given = refl; behind = refl; twice = refl; used = refl };
  keys_found = record { front = refl; several = refl; none = refl; whole = refl };
  statuses_judged = record {
    paused = refl;
    waits = refl;
    active = refl;
    unfinished = refl;
    moved = refl;
    purged = refl;
    shut = refl;
    asked = refl;
  };
  options_changed = record {
    answer = refl;
    own = refl;
    other = refl;
    unknown = refl;
    global = refl;
    risen = refl;
  };
}
