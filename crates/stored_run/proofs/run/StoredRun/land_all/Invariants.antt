use Rattle.std.proofs.Common.{◌≡◌, ◌≤◌, length, take}
use Rattle.std.specs.Prelude.{IsTrue}
use Rattle.engine_turns.specs.Phases.{LandingsPhase}
use Rattle.engine_turns.specs.declared.outcome.Outcome.TheVariants.{Went}
use Rattle.stored_run.specs.Settlings.{OfWant}
use Rattle.stored_run.specs.Steps.{Continues, DoesPart, StoresGid}
use Rattle.stored_run.specs.Writings.{KeepsBeside}
use Rattle.stored_run.proofs.LandedBytes.{AllHold}
use Rattle.stored_run.proofs.RunParts.{blocks_in_runs}
use Rattle.stored_run.proofs.run.StoredRun.land_all.Given as goal

-- the runs so far landed
abbrev pub invariant-loop-place : goal.invariant-loop-place
invariant-loop-place g l =
    let d = g.D.Disk in
    record {
      within : l.place ≤ length l.fn.open_runs;
      counted : l.counted ≡ blocks_in_runs (take l.place l.fn.open_runs);
      did : DoesPart (λ at. LandingsPhase at l.fn.gid l.fn.claim.id l.fn.claim.mirror (take l.place l.fn.open_runs)) l.fn.self
          (d.faults l.fn.self.disk) l.self (d.faults l.self.disk) Went;
      on : Continues l.place l.fn.self l.self;
      disk : IsTrue d.tells → StoresGid l.fn.gid l.fn.self l.self (d.state l.fn.self.disk) (d.state l.self.disk);
      written : IsTrue d.tells → OfWant l.fn.self l.fn.gid
          (λ want. AllHold want l.fn.run l.fn.bytes (d.state l.self.disk).seen (take l.place l.fn.open_runs));
      alone : IsTrue d.tells → KeepsBeside l.fn.gid (take l.place l.fn.open_runs) l.fn.self (d.state l.fn.self.disk)
          (d.state l.self.disk);
    }
