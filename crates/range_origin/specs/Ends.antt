-- How connections end, and what became of counts.
use Rattle.std.specs.Prelude.{◌≡◌, ℕ, Option, Some, None}
use Rattle.dl_kinds.specs.Counts.{Rose}
use Rattle.dl_kinds.specs.declared.outside.IoErr.{IoErr}
use Rattle.dl_kinds.specs.declared.outside.IoErr.TheVariants.{Fault, NoMemory}
use Rattle.range_origin.specs.declared.ends.VisitEnd.{VisitEnd}
use Rattle.range_origin.specs.declared.ends.VisitEnd.TheVariants.{Failed, DiskFailed, Starved}

abbrev pub visit_end_by : IoErr → VisitEnd
visit_end_by Fault = Failed
visit_end_by NoMemory = Starved

-- what became of the count of faults of the door: it rose where a call of the door ended the connection, and there alone
abbrev pub CausesVisitEnd : VisitEnd → ℕ → ℕ → Type 0
CausesVisitEnd Failed before now = Rose before now
CausesVisitEnd end before now = now ≡ before

-- .. where the calls were done, it stands
abbrev pub CausesIfEnd : Option VisitEnd → ℕ → ℕ → Type 0
CausesIfEnd None before now = now ≡ before
CausesIfEnd (Some end) before now = CausesVisitEnd end before now

-- whether the disk ended a connection: once or not
abbrev pub disk_failed_once : VisitEnd → ℕ
disk_failed_once DiskFailed = 1
disk_failed_once end = 0

abbrev pub disk_failed_if : Option VisitEnd → ℕ
disk_failed_if None = 0
disk_failed_if (Some end) = disk_failed_once end
