-- What a turn writes into payloads, and what stays of them.
use Rattle.std.specs.Prelude.{◌≡◌, ◌⊎◌, ℕ, Contains, List}
use Rattle.control_file.specs.declared.want.Want.{Want}
use Rattle.dl_disk.specs.Files.{Files}
use Rattle.dl_disk.specs.State.{DiskState}
use Rattle.dl_kinds.specs.declared.gid.Gid.{Gid}
use Rattle.dl_kinds.specs.declared.runs.Moment.{Moment}
use Rattle.dl_kinds.specs.declared.runs.Run.{Run}
use Rattle.engine_turns.specs.Told.{RunTurn}
use Rattle.engine_turns.specs.declared.operations.Operation.{Operation}
use Rattle.engine_turns.specs.declared.operations.Operation.TheVariants as operation
use Rattle.engine_turns.specs.declared.operations.Said.{Said}
use Rattle.engine_turns.specs.declared.operations.Said.TheVariants.{NoMemory}
use Rattle.machine_core.specs.DownloadWants.{HasWant}
use Rattle.machine_core.specs.OwnParts.{own_of}
use Rattle.machine_core.specs.Starts.{RunStart}
use Rattle.machine_core.specs.declared.ends.End.TheVariants as end
use Rattle.machine_core.specs.declared.events.Event.{Event}
use Rattle.machine_core.specs.declared.events.Event.TheVariants.{Ended, Landed}
use Rattle.stored_run.specs.Writings.{HoldsLanded, HoldsPart, IsByteOf, IsOpenByte, KeepEachUndelivered, KeepsBytesBut, KeepsPayloads}
use Rattle.stored_run.specs.declared.run.StoredView.{StoredView}

-- ---- what an operation wrote, by the view of the run

module _ {D : Type 0} where
  -- the parts of a delivery that landed stand with their bytes, and each other byte is the same
  pub record WritesDelivery (claim : ℕ) (run : Run) (bytes : List ℕ) (old new : StoredView D) (said : Said)
      (before after : DiskState) : Type 0 where
    pub written : HoldsLanded claim run bytes old new after.seen
    pub kept : KeepEachUndelivered claim run old new said before after

  -- .. and another operation leaves each payload as it was
  abbrev pub WritesRun : Operation → (old new : StoredView D) → Said → (before after : DiskState) → Type 0
  WritesRun (operation.Deliver claim run bytes now) old new said before after =
      WritesDelivery claim run bytes old new said before after
  WritesRun op old new said before after = KeepsPayloads old before after

-- ---- what a turn wrote, as its events tell

-- no block landed
abbrev pub LandsNothing : List Event → Type 0
LandsNothing events =
    (gid : Gid) (claim mirror : ℕ) (part : Run) (at : Moment) → ¬ Contains events (Landed gid claim mirror part at)

-- Each part of a delivered run that landed stands behind the turn with the bytes that were delivered for it. By another
-- operation none lands.
abbrev pub WritesAsTold : RunStart → List Event → RunTurn → Operation → Files → Type 0
WritesAsTold start past t (operation.Deliver claim run bytes now) files =
    (gid : Gid) (mirror : ℕ) (part : Run) (at : Moment) → Contains t.events (Landed gid claim mirror part at)
    → (want : Want) → HasWant start past gid want → HoldsPart want run part bytes files
WritesAsTold start past t op files = LandsNothing t.events

-- ---- what it left

-- a part with the byte landed, of a download with the want
pub record LandsByte (start : RunStart) (past : List Event) (t : RunTurn) (want : Want) (at : ℕ) : Type 0 where
  pub gid : Gid
  pub has : HasWant start past gid want
  pub claim : ℕ
  pub mirror : ℕ
  pub part : Run
  pub now : Moment
  pub landed : Contains t.events (Landed gid claim mirror part now)
  pub inside : IsByteOf want.plan part at

-- A delivered block with the byte was open, and the delivery was cut short: a fault of the disk ended the download, or
-- memory ran out.
pub record CutsByte (start : RunStart) (past : List Event) (t : RunTurn) (want : Want) (at : ℕ) : Type 0 where
  pub claim : ℕ
  pub run : Run
  pub bytes : List ℕ
  pub now : Moment
  pub delivers : t.op ≡ operation.Deliver claim run bytes now
  pub gid : Gid
  pub has : HasWant start past gid want
  pub open_in : IsOpenByte (own_of start past gid) claim run want.plan at
  pub cut : (t.answer.said ≡ NoMemory) ⊎ ((count : ℕ) × Contains t.events (Ended gid (end.Disk count)))

-- each other byte of the payload is the same
abbrev pub KeepsUnwritten : RunStart → List Event → RunTurn → Want → (old new : Files) → Type 0
KeepsUnwritten start past t want =
    KeepsBytesBut (λ at. LandsByte start past t want at ⊎ CutsByte start past t want at) want
