-- How the events of a turn tell the faults of its disk.
use Rattle.std.specs.Prelude.{◌≡◌, ◌≤◌, ◌<◌, ℕ, Contains, IfSome, List, [], ◌∷◌}
use Rattle.std.specs.Option.{unwrap_or}
use Rattle.dl_kinds.specs.Counts.{Rose}
use Rattle.dl_kinds.specs.declared.gid.Gid.{Gid}
use Rattle.machine_core.specs.RunLegal.{disk_fault_of}
use Rattle.machine_core.specs.declared.ends.End.TheVariants as end
use Rattle.machine_core.specs.declared.events.Event.{Event}
use Rattle.machine_core.specs.declared.events.Event.TheVariants.{Ended}

-- it is a higher count, or the last one that there is
pub record RisesTo (faults count : ℕ) : Type 0 where
  pub later : faults ≤ count
  pub rose : Rose faults count

-- the disk's count of faults behind an event: the one that it tells, if it tells one
abbrev pub count_behind : ℕ → Event → ℕ
count_behind faults e = unwrap_or (disk_fault_of e) faults

-- From one count of the disk's faults to the next by these events, in order: a fault that ended a download raised it to the
-- count that is told, and nothing else did.
abbrev pub CountsFaults : (faults : ℕ) → List Event → (faults_after : ℕ) → Type 0
CountsFaults faults [] faults_after = faults_after ≡ faults
CountsFaults faults (e ∷ events) faults_after =
    IfSome (disk_fault_of e) (RisesTo faults) × CountsFaults (count_behind faults e) events faults_after

-- ---- what follows

-- a fault of the disk ended a download, with this count
pub record TellsFault (events : List Event) (count : ℕ) : Type 0 where
  pub gid : Gid
  pub ended : Contains events (Ended gid (end.Disk count))

-- where the count rose a fault is told with the count as it is then
abbrev pub RisesAreTold : Type 0
RisesAreTold =
    (faults faults_after : ℕ) (events : List Event) → CountsFaults faults events faults_after → faults < faults_after
    → TellsFault events faults_after

-- the count never falls, and none is told above it
pub record CountsStayWithin (faults : ℕ) (events : List Event) (faults_after : ℕ) : Type 0 where
  pub later : faults ≤ faults_after
  pub within : (count : ℕ) → TellsFault events count → count ≤ faults_after

abbrev pub CountsNeverFall : Type 0
CountsNeverFall =
    (faults faults_after : ℕ) (events : List Event) → CountsFaults faults events faults_after
    → CountsStayWithin faults events faults_after
