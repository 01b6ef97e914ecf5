-- How work ends, and pauses.
use Rattle.std.specs.Prelude.{◌+◌, ◌^◌, ◌-◌, ℕ, Bool, true, false, Option, Some, None, Result, Ok, min}
use Rattle.engine_turns.specs.declared.operations.Said.{Said}
use Rattle.engine_turns.specs.declared.operations.Said.TheVariants as said
use Rattle.conn_worker.specs.declared.ends.TheConstants.{IDLE_PAUSE}
use Rattle.conn_worker.specs.declared.ends.Spent.{Spent}
use Rattle.conn_worker.specs.declared.ends.WorkEnd.{WorkEnd}
use Rattle.conn_worker.specs.declared.ends.WorkEnd.TheVariants.{Finished, JournalFull, NoMemory}

abbrev pub end_of_said : Said → Option WorkEnd
end_of_said said.Finished = Some Finished
end_of_said (said.JournalFull count) = Some JournalFull
end_of_said said.NoMemory = Some NoMemory
end_of_said other = None

abbrev pub is_finished : Result WorkEnd Spent → Bool
is_finished (Ok Finished) = true
is_finished came = false

-- in milliseconds
abbrev pub pause_of : Said → Option ℕ
pause_of (said.Hold ms) = Some ms
pause_of said.Idle = Some IDLE_PAUSE
pause_of other = None

-- the moment behind a pause, up to the last one that there is
abbrev pub moment_behind : ℕ → Option ℕ → ℕ
moment_behind now None = now
moment_behind now (Some ms) = min (now + ms) (2 ^ 64 - 1)
