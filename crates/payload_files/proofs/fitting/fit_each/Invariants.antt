use Rattle.std.proofs.Common.{◌≡◌, take, IsTrue}
use Rattle.dl_disk.specs.Passes.{Performs}
use Rattle.payload_files.specs.Payload.{AreResized}
use Rattle.payload_files.specs.Changes.{LeavesFitting, Stretches}
use Rattle.payload_files.proofs.fitting.fit_each.Given as goal

abbrev pub invariant-loop-file : goal.invariant-loop-file
invariant-loop-file g l = record {
  resized : IsTrue g.D.Disk.tells → AreResized l.dir (take l.file-index l.files) (g.D.Disk.state l.fn.disk).seen (g.D.Disk.state l.disk).seen;
  performs : IsTrue g.D.Disk.tells → Performs (Stretches l.dir (take l.file-index l.files)) (g.D.Disk.state l.fn.disk) (g.D.Disk.state l.disk);
  alone : IsTrue g.D.Disk.tells
      → LeavesFitting l.dir (take l.file-index l.files) (g.D.Disk.state l.fn.disk) (g.D.Disk.state l.disk);
  folders : IsTrue g.D.Disk.tells → (g.D.Disk.state l.disk).folders ≡ (g.D.Disk.state l.fn.disk).folders;
  faults : g.D.Disk.faults l.disk ≡ g.D.Disk.faults l.fn.disk;
}
