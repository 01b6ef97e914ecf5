-- Runs that check a payload of a version 2 torrent.
use Rattle.std.specs.Prelude.{ℕ, List, Option}
use Rattle.check_run.specs.Checks.{ChecksPayload}
use Rattle.check_run.specs.OneCheck.{OneCheck}
use Rattle.command_meanings.specs.Meanings.{AskToCheck}
use Rattle.command_meanings.specs.declared.modes.CheckLine.{CheckLine}
use Rattle.dl_disk.specs.declared.disk.Disk.{Ghosts as DiskSays}
use Rattle.dl_kinds.specs.declared.outside.Sink.{Ghosts as SinkSays}
use Rattle.aria_top.specs.Began.{LeftAll}
use Rattle.aria_top.specs.OneRun.{OneRun}

module _ {D L K A O : Type 0} (disk : DiskSays D) (sinks : SinkSays O) (run : OneRun D L K A O) where
  -- the check by the names of the metainfo file, of the payload's folder and of the copy's, on the disk of the run
  abbrev pub check_of_run : (file dir : List ℕ) → Option (List ℕ) → OneCheck D O
  check_of_run file dir copy = record {
    given = record { file = file; dir = dir; copy = copy; disk = run.given.disk; out = run.given.out };
    came = record { ending = run.came.ended.ending; disk = run.came.ended.disk; out = run.came.out };
  }

  -- The payload was checked, and repaired from the copy. Links and doors weren't used, and nothing is told as an event.
  pub record RanCheck (file dir : List ℕ) (copy : Option (List ℕ)) : Type 0 where
    pub checked : ChecksPayload disk sinks (check_of_run file dir copy)
    pub left : LeftAll run

  -- words that ask for a check have it done
  abbrev pub ChecksPayloads : Type 0
  ChecksPayloads = (line : CheckLine) → AskToCheck run.given.words line → RanCheck line.file line.dir line.copy
