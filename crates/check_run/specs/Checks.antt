-- What the check of a payload promises, from the metainfo file to the line that is printed (BEP 52).
use Rattle.std.specs.Prelude.{◌≡◌, ◌≤◌, ◌⊎◌, IsTrue, Result, Ok, Err}
use Rattle.dl_disk.specs.declared.disk.Disk.{Ghosts as DiskSays}
use Rattle.dl_kinds.specs.Counts.{Rose}
use Rattle.dl_kinds.specs.declared.outside.Sink.{Ghosts as SinkSays}
use Rattle.machine_core.specs.declared.ends.End.TheVariants as download
use Rattle.meta_v2.specs.Sound.{IsSoundV2}
use Rattle.meta_v2.specs.declared.meta.MetaV2.{MetaV2}
use Rattle.payload_repair.specs.Promises.{RepairTask}
use Rattle.payload_repair.specs.declared.counts.Counts.{Counts}
use Rattle.payload_repair.specs.declared.repair_err.RepairErr.{RepairErr}
use Rattle.payload_repair.specs.declared.repair_err.RepairErr.TheVariants as repair
use Rattle.run_lifecycle.specs.Begins.{IsRead}
use Rattle.run_lifecycle.specs.Finishes.{PrintsRefusal}
use Rattle.run_report.specs.declared.endings.MetainfoFault.TheVariants.{Unread}
use Rattle.run_report.specs.declared.endings.RunEnding.{RunEnding}
use Rattle.run_report.specs.declared.endings.RunEnding.TheVariants.{Failed, NoMetainfo, NoMemory}
use Rattle.check_run.specs.Endings.{IsReportedCount}
use Rattle.check_run.specs.Files.{LacksPayload, SaysV2, is_fault_of_file}
use Rattle.check_run.specs.OneCheck.{OneCheck}
use Rattle.check_run.specs.Payloads.{MendsPayload}

-- what is checked: the files that the metainfo file lists, in the folder, and the folder of their copies, if there is one
abbrev pub task_in : {D O : Type 0} → OneCheck D O → MetaV2 → RepairTask
task_in check meta = record {
  piece_len = meta.piece_len;
  files = meta.files;
  dir = check.given.dir;
  copy = check.given.copy;
}

module _ {D O : Type 0} (says : DiskSays D) (sinks : SinkSays O) (check : OneCheck D O) where
  -- Why the metainfo file gave no payload; of want of memory it tells nothing.
  abbrev pub WhyNoPayload : RunEnding → Type 0
  WhyNoPayload (NoMetainfo fault) =
      IsTrue (is_fault_of_file fault)
      × (IsTrue says.tells → LacksPayload ((says.state check.given.disk).seen check.given.file) fault)
      × (fault ≡ Unread → Rose (says.faults check.given.disk) (says.faults check.came.disk))
  WhyNoPayload NoMemory = Unit {0}
  WhyNoPayload other = ⊥

  -- It gave none. The disk was read at most, and `error` with the exit status was printed.
  pub record GaveNoPayload : Type 0 where
    pub refusal : RunEnding
    pub why : WhyNoPayload refusal
    pub is_read : IsRead says check.given.disk check.came.disk
    pub printed : PrintsRefusal sinks refusal check.given.out check.came.out check.came.ending

  -- How a check ends by what its repair answers: its line was printed, or the output failed; or the disk failed or memory
  -- was wanting, and nothing was printed.
  abbrev pub EndsCheck : Result Counts RepairErr → Type 0
  EndsCheck (Ok counts) = IsReportedCount sinks counts check.given.out check.came.out check.came.ending
  EndsCheck (Err repair.Disk) =
      (check.came.ending ≡ Failed (download.Disk (says.faults check.came.disk)))
      × Rose (says.faults check.given.disk) (says.faults check.came.disk)
      × (check.came.out ≡ check.given.out)
  EndsCheck (Err repair.NoMemory) = (check.came.ending ≡ NoMemory) × (check.came.out ≡ check.given.out)

  -- The files that it lists were checked, and repaired from the copy.
  pub record IsChecked (meta : MetaV2) : Type 0 where
    pub answer : Result Counts RepairErr
    pub ends : EndsCheck answer
    pub mends : IsTrue says.tells
        → MendsPayload (task_in check meta) (says.state check.given.disk) (says.state check.came.disk) answer
    pub later : says.faults check.given.disk ≤ says.faults check.came.disk

  -- This is what it says, and so it was checked.
  pub record GavePayload : Type 0 where
    pub meta : MetaV2
    pub sound : IsSoundV2 meta
    pub said : IsTrue says.tells → SaysV2 ((says.state check.given.disk).seen check.given.file) meta
    pub checked : IsChecked meta

  -- The metainfo file gave no payload; or its payload was checked.
  abbrev pub ChecksPayload : Type 0
  ChecksPayload = GaveNoPayload ⊎ GavePayload
