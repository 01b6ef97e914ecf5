use Rattle.std.proofs.Common.{◌≡◌, take, IsTrue}
use Rattle.std.specs.List.{sum_by}
use Rattle.dl_disk.specs.Passes.{Performs}
use Rattle.span_map.specs.declared.files.Part.{Part}
use Rattle.payload_files.specs.Changes.{TornSlice, WritesSlice}
use Rattle.payload_files.proofs.writing.write_slice.Given as goal

abbrev pub invariant-loop-part : goal.invariant-loop-part
invariant-loop-part g l = record {
  sum : l.written ≡ sum_by (λ (part : Part). part.len) (take l.part-index l.part-items);
  made : IsTrue g.D.Disk.tells → WritesSlice l.dir l.layout l.at (take l.written l.bytes) (g.D.Disk.state l.fn.disk).seen (g.D.Disk.state l.disk).seen;
  performs : IsTrue g.D.Disk.tells → Performs (TornSlice l.dir l.layout l.at l.written) (g.D.Disk.state l.fn.disk) (g.D.Disk.state l.disk);
  folders : IsTrue g.D.Disk.tells → (g.D.Disk.state l.disk).folders ≡ (g.D.Disk.state l.fn.disk).folders;
  faults : g.D.Disk.faults l.disk ≡ g.D.Disk.faults l.fn.disk;
}
