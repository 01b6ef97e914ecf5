use Rattle.std.proofs.Common.{◌≡◌, take, IsTrue}
use Rattle.dl_disk.specs.Calls.{Stays}
use Rattle.dl_disk.specs.Files.{IsSame}
use Rattle.dl_disk.specs.Passes.{Performs}
use Rattle.payload_files.specs.Payload.{AreDurable}
use Rattle.payload_files.proofs.syncing.sync_files.Given as goal

abbrev pub invariant-loop-file : goal.invariant-loop-file
invariant-loop-file g l = record {
  durable : IsTrue g.D.Disk.tells → AreDurable l.dir (take l.file-index l.file-items) (g.D.Disk.state l.disk);
  stays : IsTrue g.D.Disk.tells → Stays (g.D.Disk.state l.fn.disk) (g.D.Disk.state l.disk);
  performs : IsTrue g.D.Disk.tells → Performs IsSame (g.D.Disk.state l.fn.disk) (g.D.Disk.state l.disk);
  folders : IsTrue g.D.Disk.tells → (g.D.Disk.state l.disk).folders ≡ (g.D.Disk.state l.fn.disk).folders;
  faults : g.D.Disk.faults l.disk ≡ g.D.Disk.faults l.fn.disk;
}
