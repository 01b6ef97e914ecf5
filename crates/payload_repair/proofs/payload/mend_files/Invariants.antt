use Rattle.std.proofs.Common.{◌≡◌, take, IsTrue}
use Rattle.std.specs.Prelude.{option_map}
use Rattle.meta_v2.specs.Sound.{all_bytes, all_pieces}
use Rattle.payload_repair.specs.Counting.{AreOf}
use Rattle.payload_repair.specs.Payload.{ShareNoFile}
use Rattle.payload_repair.specs.Whole.{ChangesFiles, FilesAreRepaired, counts_of_files}
use Rattle.payload_repair.proofs.payload.mend_files.Given as goal

abbrev pub invariant-loop-file : goal.invariant-loop-file
invariant-loop-file g l =
    let start = g.D.Disk.state l.fn.disk in
    let now = g.D.Disk.state l.disk in
    let copy = option_map (λ folder. folder.now) l.copy in
    record {
      counts : IsTrue g.D.Disk.tells → ShareNoFile l.dir copy l.meta.files → l.counts ≡ counts_of_files l.meta.piece_len l.dir copy start.seen (take l.file-index l.meta.files);
      bounded : AreOf (all_pieces l.meta.piece_len (take l.file-index l.meta.files)) (all_bytes (take l.file-index l.meta.files)) l.counts;
      repaired : IsTrue g.D.Disk.tells → ShareNoFile l.dir copy l.meta.files → FilesAreRepaired l.meta.piece_len l.dir copy l.meta.files l.file-index start.seen now;
      changes : IsTrue g.D.Disk.tells → ShareNoFile l.dir copy l.meta.files → ChangesFiles l.meta.piece_len l.dir copy l.meta.files l.file-index start now;
      faults : g.D.Disk.faults l.disk ≡ g.D.Disk.faults l.fn.disk;
    }
