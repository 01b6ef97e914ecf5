-- How a run ends, and the exit status of each end.
use Rattle.std.specs.Prelude.{ℕ, Option}
use Rattle.std.specs.Option.{option_map_or}
use Rattle.machine_core.specs.declared.ends.End.{End}
use Rattle.machine_core.specs.declared.ends.End.TheVariants as end
use Rattle.dl_kinds.specs.ExitStatuses.{code_of_status}
use Rattle.run_report.specs.declared.endings.MetainfoFault.{MetainfoFault}
use Rattle.run_report.specs.declared.endings.MetainfoFault.TheVariants as fault
use Rattle.run_report.specs.declared.endings.RunEnding.{RunEnding}
use Rattle.run_report.specs.declared.endings.RunEnding.TheVariants as ending
use Rattle.dl_kinds.specs.declared.exit_status.ExitStatus.{ExitStatus}
use Rattle.dl_kinds.specs.declared.exit_status.ExitStatus.TheVariants as status

-- that of a dead piece is the one of its last mark
abbrev pub code_of_end : End → ℕ
code_of_end end.Complete = code_of_status status.Done
code_of_end (end.Dead piece mark) = mark.code.0
code_of_end (end.Disk count) = code_of_status status.FileIo
code_of_end (end.Exists length) = code_of_status status.Exists
code_of_end (end.PieceLength have want) = code_of_status status.PieceLength
code_of_end (end.Length have want) = code_of_status status.Unusable
code_of_end end.InfoHash = code_of_status status.Unusable
code_of_end (end.Unreadable at) = code_of_status status.Unusable
code_of_end (end.TooLarge total) = code_of_status status.Unusable
code_of_end (end.SameFile gid) = code_of_status status.SameFile
code_of_end (end.SameHash gid) = code_of_status status.SameHash
code_of_end end.Checksum = code_of_status status.Checksum

-- the exit status that an end names, and 0 without one
abbrev pub code_by : Option End → ℕ
code_by end = option_map_or code_of_end end 0

abbrev pub status_of_fault : MetainfoFault → ExitStatus
status_of_fault fault.Missing = status.NotFound
status_of_fault fault.Unread = status.FileIo
status_of_fault fault.TooLong = status.BadMetainfo
status_of_fault fault.NotBencode = status.BadBencode
status_of_fault fault.Unusable = status.BadMetainfo
status_of_fault fault.NoMirror = status.BadMetainfo
status_of_fault fault.TooManyMirrors = status.BadMetainfo

abbrev pub code_of_ending : RunEnding → ℕ
code_of_ending ending.NoMeaning = code_of_status status.BadWords
code_of_ending (ending.NoMetainfo why) = code_of_status (status_of_fault why)
code_of_ending ending.NoMemory = code_of_status status.NoMemory
code_of_ending ending.SinkFault = code_of_status status.SinkFault
code_of_ending (ending.Failed how) = code_of_end how
code_of_ending ending.Unfinished = code_of_status status.Unfinished
code_of_ending ending.Done = code_of_status status.Done
