-- How a check ends by what its repair answers, and the line that it prints.
use Rattle.std.specs.Prelude.{◌≡◌, ◌+◌, ◌==◌, ◌++◌, ℕ, Bool, if◌then◌else◌, List, Result, Ok, Err, codes}
use Rattle.std.specs.Fmt.{decimal}
use Rattle.dl_kinds.specs.declared.outside.IoErr.{IoErr}
use Rattle.dl_kinds.specs.declared.outside.IoErr.TheVariants as failure
use Rattle.dl_kinds.specs.declared.outside.Sink.{Ghosts as SinkSays}
use Rattle.machine_core.specs.declared.ends.End.TheVariants.{Checksum}
use Rattle.payload_repair.specs.declared.counts.Counts.{Counts}
use Rattle.run_report.specs.Writing.{Writes}
use Rattle.run_report.specs.declared.endings.RunEnding.{RunEnding}
use Rattle.run_report.specs.declared.endings.RunEnding.TheVariants.{Done, Failed, NoMemory, SinkFault}

-- `pieces P right R repaired Q blocks B`, and a line feed
unfoldable pub counts_line : Counts → List ℕ
counts_line counts =
    codes "pieces "
    ++ decimal counts.pieces
    ++ codes " right "
    ++ decimal counts.right
    ++ codes " repaired "
    ++ decimal counts.repaired
    ++ codes " blocks "
    ++ decimal counts.blocks
    ++ codes "\n"

-- whether each piece was right or is repaired
abbrev pub is_whole : Counts → Bool
is_whole counts = counts.right + counts.repaired == counts.pieces

-- how a check ends whose line is printed
abbrev pub ending_of_counts : Counts → RunEnding
ending_of_counts counts = if is_whole counts then Done else Failed Checksum

-- .. by what the output answers to the line
abbrev pub ending_of_line : Counts → Result (Unit {0}) IoErr → RunEnding
ending_of_line counts (Ok printed) = ending_of_counts counts
ending_of_line counts (Err failure.Fault) = SinkFault
ending_of_line counts (Err failure.NoMemory) = NoMemory

module _ {O : Type 0} (sinks : SinkSays O) where
  -- the line is printed, and the check ends by what the output answers
  abbrev pub IsReportedCount : Counts → O → O → RunEnding → Type 0
  IsReportedCount counts out out' ending =
      (printed : Result (Unit {0}) IoErr) × Writes sinks (counts_line counts) out out' printed
      × (ending ≡ ending_of_line counts printed)
