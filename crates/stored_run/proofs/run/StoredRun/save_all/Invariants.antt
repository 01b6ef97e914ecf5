use Rattle.std.specs.Prelude.{IsTrue}
use Rattle.stored_run.specs.Writings.{SavesPayloads}
use Rattle.stored_run.proofs.SavedOnes.{SavesSoFar, SavesTold}
use Rattle.stored_run.proofs.run.StoredRun.save_all.Given as goal

abbrev pub invariant-loop-at : goal.invariant-loop-at
invariant-loop-at g l =
    record {
      told : SavesTold l.gids l.at l.fn.self l.self (g.D.Disk.faults l.fn.self.disk) (g.D.Disk.faults l.self.disk);
      sofar : SavesSoFar g.D.Disk.tells l.gids l.at l.fn.self l.self (g.D.Disk.state l.fn.self.disk)
          (g.D.Disk.state l.self.disk);
      payloads : IsTrue g.D.Disk.tells → SavesPayloads l.gids l.fn.self (g.D.Disk.state l.fn.self.disk)
          (g.D.Disk.state l.self.disk);
    }
