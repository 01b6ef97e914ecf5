use Rattle.std.proofs.Common.{◌≡◌, length, take, IsTrue}
use Rattle.resume_core.specs.Lens.{lens_of_files}
use Rattle.resume_core.specs.Openings.{AnyFile, LooksPast}
use Rattle.resume_core.proofs.lens.file_lens.Given as goal

abbrev pub invariant-loop-file : goal.invariant-loop-file
invariant-loop-file g l = record {
  lens : IsTrue g.D.Disk.tells
      → l.lens.items ≡ lens_of_files l.dir (take l.file-index l.file-items) (g.D.Disk.state l.fn.disk).seen;
  count : length l.lens.items ≡ l.file-index;
  looks : IsTrue g.D.Disk.tells → LooksPast AnyFile (g.D.Disk.state l.fn.disk) (g.D.Disk.state l.disk);
  faults : g.D.Disk.faults l.disk ≡ g.D.Disk.faults l.fn.disk;
}
