use Rattle.std.proofs.Common.{◌≡◌, take, IsTrue}
use Rattle.std.specs.Prelude.{All}
use Rattle.std.specs.List.{sum_by}
use Rattle.span_map.specs.Slices.{part_bytes}
use Rattle.span_map.specs.declared.files.Part.{Part}
use Rattle.payload_files.specs.Payload.{contents_in}
use Rattle.payload_files.specs.Reading.{ReadsOnly, HasPart}
use Rattle.payload_files.proofs.reading.read_slice.Given as goal

abbrev pub invariant-loop-part : goal.invariant-loop-part
invariant-loop-part g l = record {
  sum : l.read ≡ sum_by (λ (part : Part). part.len) (take l.part-index l.part-items);
  within : IsTrue g.D.Disk.tells
      → All (HasPart (contents_in l.dir l.layout (g.D.Disk.state l.fn.disk).seen)) (take l.part-index l.part-items);
  bytes : IsTrue g.D.Disk.tells
      → take l.read l.into
      ≡ part_bytes (contents_in l.dir l.layout (g.D.Disk.state l.fn.disk).seen) (take l.part-index l.part-items);
  looks : IsTrue g.D.Disk.tells → ReadsOnly l.dir l.layout (g.D.Disk.state l.fn.disk) (g.D.Disk.state l.disk);
  faults : g.D.Disk.faults l.disk ≡ g.D.Disk.faults l.fn.disk;
}
