use Rattle.std.proofs.Common.{take}
use Rattle.engine_turns.specs.CallRows.{AreThose}
use Rattle.stored_run.specs.Saves.{IsDueLast, gids_of}
use Rattle.stored_run.proofs.run.StoredRun.due_last.Given as goal

abbrev pub invariant-loop-n : goal.invariant-loop-n
invariant-loop-n g l = AreThose (IsDueLast l.self) (take l.n (gids_of l.self)) l.due.items
