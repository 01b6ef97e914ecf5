use Rattle.std.proofs.Common.{◌≡◌, take, length, IsTrue}
use Rattle.dl_disk.specs.Files.{file_bytes}
use Rattle.payload_repair.specs.Blocks.{PutsBlocks}
use Rattle.payload_repair.specs.Mends.{MendsBlocks}
use Rattle.payload_repair.specs.StepsBy.{StepsBy}
use Rattle.payload_repair.proofs.writing.write_blocks.Given as goal

abbrev pub invariant-loop-place : goal.invariant-loop-place
invariant-loop-place g l = record {
  written : IsTrue g.D.Disk.tells → PutsBlocks l.start l.bytes (take l.place-index l.places)
      (file_bytes ((g.D.Disk.state l.fn.disk).seen l.name)) (file_bytes ((g.D.Disk.state l.disk).seen l.name));
  steps : IsTrue g.D.Disk.tells → StepsBy (MendsBlocks l.name l.start (length l.bytes) (take l.place-index l.places))
      (g.D.Disk.state l.fn.disk) (g.D.Disk.state l.disk);
  faults : g.D.Disk.faults l.disk ≡ g.D.Disk.faults l.fn.disk;
}
