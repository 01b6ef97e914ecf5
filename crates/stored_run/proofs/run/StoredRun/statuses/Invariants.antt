use Rattle.std.proofs.Common.{◌≡◌, map, take}
use Rattle.stored_run.specs.Saves.{gids_of, status_in}
use Rattle.stored_run.proofs.run.StoredRun.statuses.Given as goal

abbrev pub invariant-loop-n : goal.invariant-loop-n
invariant-loop-n g l =
    l.statuses.items ≡ map (status_in l.self.machine.start l.self.machine.past) (take l.n (gids_of l.self))
