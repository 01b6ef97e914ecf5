-- The disk of a run.
use Rattle.std.specs.Prelude.{ℕ}
use Rattle.real_edge.specs.declared.folder.EdgeDisk.{EdgeDisk}
use Rattle.real_edge.specs.declared.folder.EdgeDisk.TheVariants.{All, Folder}

-- how often a call of it failed
abbrev pub edge_faults : {R F : Type 0} → EdgeDisk R F → ℕ
edge_faults {R} {F} (All disk) = disk.faults.faults.count
edge_faults {R} {F} (Folder disk) = disk.faults.faults.count
