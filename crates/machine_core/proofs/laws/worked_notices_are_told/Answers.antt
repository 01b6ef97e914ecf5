use Rattle.std.proofs.Common.{refl}
use Rattle.machine_core.proofs.laws.worked_notices_are_told.Goals as goal

pub returns : goal.returns
returns c = record {
  one_told = record {
    starts = refl;
    goes_on = refl;
    from_there = refl;
    behind = refl;
    at_end = refl;
    removed = refl;
    purged = refl;
    saved = refl;
    paused = refl;
    unpaused = refl;
  };
  three_told = record {
    added = refl;
    raised = refl;
    second_one = refl;
    none_there = refl;
    makes_way = refl;
    waits = refl;
    complete = refl;
    failed = refl;
  };
}
