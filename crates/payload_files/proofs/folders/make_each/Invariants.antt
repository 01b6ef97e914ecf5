use Rattle.std.proofs.Common.{◌≡◌, take, IsTrue}
use Rattle.std.specs.Prelude.{IfSome, Contains, option_map, string_bytes}
use Rattle.dl_disk.specs.Files.{IsSame}
use Rattle.dl_disk.specs.Passes.{Performs}
use Rattle.payload_files.specs.Names.{HasFolders, KeepsFolders, MakesFoldersOf}
use Rattle.payload_files.proofs.folders.make_each.Given as goal

abbrev pub invariant-loop-file : goal.invariant-loop-file
invariant-loop-file g l = record {
  last : IsTrue g.D.Disk.tells → IfSome (option_map string_bytes l.last) (Contains (g.D.Disk.state l.disk).folders);
  made : IsTrue g.D.Disk.tells → HasFolders l.dir (take l.file-index l.files) (g.D.Disk.state l.disk).folders;
  stay : IsTrue g.D.Disk.tells → KeepsFolders (g.D.Disk.state l.fn.disk).folders (g.D.Disk.state l.disk).folders;
  only : IsTrue g.D.Disk.tells
      → MakesFoldersOf l.dir l.files (g.D.Disk.state l.fn.disk).folders (g.D.Disk.state l.disk).folders;
  performs : IsTrue g.D.Disk.tells → Performs IsSame (g.D.Disk.state l.fn.disk) (g.D.Disk.state l.disk);
  faults : g.D.Disk.faults l.disk ≡ g.D.Disk.faults l.fn.disk;
}
