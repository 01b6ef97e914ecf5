use Rattle.std.proofs.Common.{take}
use Rattle.engine_turns.specs.CallRows.{AreThose}
use Rattle.stored_run.specs.Saves.{IsDueOff, gids_of}
use Rattle.stored_run.proofs.run.StoredRun.due_off.Given as goal

abbrev pub invariant-loop-n : goal.invariant-loop-n
invariant-loop-n g l = AreThose (IsDueOff l.was l.self) (take l.n (gids_of l.self)) l.due.items
