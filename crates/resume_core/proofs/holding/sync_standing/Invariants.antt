use Rattle.std.proofs.Common.{◌≡◌, ◌<◌, ℕ, IsTrue}
use Rattle.dl_disk.specs.Files.{IsSame}
use Rattle.dl_disk.specs.Passes.{Performs}
use Rattle.resume_core.specs.States.{LastsWhereStood}
use Rattle.resume_core.proofs.holding.sync_standing.Given as goal

abbrev pub invariant-loop-index : goal.invariant-loop-index
invariant-loop-index g l = record {
  durable : IsTrue g.D.Disk.tells → (k : ℕ) → k < l.index
      → LastsWhereStood l.want l.lens k (g.D.Disk.state l.disk);
  performs : IsTrue g.D.Disk.tells → Performs IsSame (g.D.Disk.state l.fn.disk) (g.D.Disk.state l.disk);
  folders : IsTrue g.D.Disk.tells → (g.D.Disk.state l.disk).folders ≡ (g.D.Disk.state l.fn.disk).folders;
  faults : g.D.Disk.faults l.disk ≡ g.D.Disk.faults l.fn.disk;
}
