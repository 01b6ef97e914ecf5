use Rattle.std.proofs.Common.{◌≡◌, ◌+◌, ◌-◌, ◌≤◌}
use Rattle.std.specs.Prelude.{IsTrue}
use Rattle.machine_core.specs.Reads.{lengths_of_gid}
use Rattle.stored_run.specs.Steps.{Continues, StoresGid}
use Rattle.stored_run.specs.Views.{IsGoing}
use Rattle.stored_run.proofs.FilledPieces.{FilledSo}
use Rattle.stored_run.proofs.run.StoredRun.count_filled.Given as goal

-- the full pieces so far count as right
abbrev pub invariant-loop-piece : goal.invariant-loop-piece
invariant-loop-piece g l =
    let d = g.D.Disk in
    record {
      from : l.first ≤ l.piece;
      to : l.piece ≤ l.last + 1;
      so : FilledSo d.faults l.fn.gid l.fn.run l.fn.full l.fn.self l.self l.piece;
      on : Continues (l.piece - l.first) l.fn.self l.self;
      going : IsGoing l.self l.fn.gid;
      lengths : lengths_of_gid l.self.machine l.fn.gid ≡ lengths_of_gid l.fn.self.machine l.fn.gid;
      untouched : l.self.disk ≡ l.fn.self.disk;
      disk : IsTrue d.tells → StoresGid l.fn.gid l.fn.self l.self (d.state l.fn.self.disk) (d.state l.self.disk);
    }
