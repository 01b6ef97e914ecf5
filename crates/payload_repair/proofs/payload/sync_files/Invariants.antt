use Rattle.std.proofs.Common.{◌≡◌, ◌<◌, ℕ, Some, IsTrue, slice_get}
use Rattle.std.specs.Prelude.{IsSome}
use Rattle.dl_disk.specs.Files.{IsSame}
use Rattle.dl_disk.specs.State.{IsDurable}
use Rattle.meta_v2.specs.declared.files.FileV2.{FileV2}
use Rattle.payload_files.specs.Names.{name_of}
use Rattle.payload_repair.specs.StepsBy.{StepsBy}
use Rattle.payload_repair.proofs.payload.sync_files.Given as goal

abbrev pub invariant-loop-file : goal.invariant-loop-file
invariant-loop-file g l =
    let now = g.D.Disk.state l.disk in
    record {
      durable : IsTrue g.D.Disk.tells → (k : ℕ) (file : FileV2) → k < l.file-index → slice_get l.meta.files k ≡ Some file
          → IsSome (now.seen (name_of l.dir file.path)) → IsDurable (name_of l.dir file.path) now;
      steps : IsTrue g.D.Disk.tells → StepsBy IsSame (g.D.Disk.state l.fn.disk) now;
      faults : g.D.Disk.faults l.disk ≡ g.D.Disk.faults l.fn.disk;
    }
