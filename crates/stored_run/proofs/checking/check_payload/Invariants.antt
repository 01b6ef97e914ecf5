use Rattle.std.proofs.Common.{◌≡◌, ◌≤◌, ◌-◌, IsTrue, take}
use Rattle.payload_files.specs.Reading.{ReadsOnly}
use Rattle.stored_run.specs.Settlings.{payload_of}
use Rattle.verify_piece.specs.Hashes.{TookMessage}
use Rattle.stored_run.proofs.checking.check_payload.Given as goal

abbrev pub invariant-loop-at : goal.invariant-loop-at
invariant-loop-at g l =
    record {
      within : l.at ≤ l.want.plan.total;
      check : l.hash.checksum ≡ l.check;
      took : IsTrue g.D.Disk.tells
          → TookMessage l.check.hash l.hash.hasher (take l.at (payload_of l.want (g.D.Disk.state l.fn.disk).seen));
      looks : IsTrue g.D.Disk.tells
          → ReadsOnly l.want.dir l.want.layout (g.D.Disk.state l.fn.disk) (g.D.Disk.state l.disk);
      faults : g.D.Disk.faults l.disk ≡ g.D.Disk.faults l.fn.disk;
    }

abbrev pub decreases-loop-at : goal.decreases-loop-at
decreases-loop-at g l = l.want.plan.total - l.at
