-- A check by texts that are the names of a line.
use Rattle.std.proofs.Common.{◌≡◌, ℕ, List, Option, subst}
use Rattle.std.specs.Borrow.{Bor}
use Rattle.std.specs.Option.{option_map}
use Rattle.check_run.specs.Checks.{ChecksPayload}
use Rattle.check_run.specs.OneCheck.{OneCheck, one_check}
use Rattle.dl_disk.specs.declared.disk.Disk.{Ghosts as DiskSays}
use Rattle.dl_kinds.specs.declared.outside.Sink.{Ghosts as SinkSays}
use Rattle.run_report.specs.declared.endings.RunEnding.{RunEnding}

module _ {D O : Type 0} (says : DiskSays D) (sinks : SinkSays O) (disk disk' : D) (out out' : O) (ending : RunEnding) where
  abbrev pub check_at : (file dir : List ℕ) → Option (List ℕ) → OneCheck D O
  check_at file dir copy = record {
    given = record { file = file; dir = dir; copy = copy; disk = disk; out = out };
    came = record { ending = ending; disk = disk'; out = out' };
  }

  pub by_names : (file file' dir dir' : List ℕ) (copy : Option (Bor (List ℕ))) (copy' : Option (List ℕ)) → file ≡ file'
      → dir ≡ dir' → option_map (λ folder. folder.now) copy ≡ copy'
      → ChecksPayload says sinks (one_check file dir copy disk out ending disk' out')
      → ChecksPayload says sinks (check_at file' dir' copy')
  by_names file file' dir dir' copy copy' file_is dir_is copy_is checked =
      subst (λ (f : List ℕ). ChecksPayload says sinks (check_at f dir' copy')) file_is
      (subst (λ (d : List ℕ). ChecksPayload says sinks (check_at file d copy')) dir_is
      (subst (λ (c : Option (List ℕ)). ChecksPayload says sinks (check_at file dir c)) copy_is checked))
