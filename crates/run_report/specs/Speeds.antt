-- How fast the bytes of downloads come (aria2 manual, `aria2.getGlobalStat`).
use Rattle.std.specs.Prelude.{ℕ, ◌+◌, ◌-◌, ◌/◌, ◌^◌, ◌&&◌, nat_lt, min, Bool, true, Option, Some, None, List, if◌then◌else◌, sum_by}
use Rattle.dl_kinds.specs.declared.gid.Gid.{Gid}
use Rattle.dl_kinds.specs.declared.runs.Moment.{Moment}
use Rattle.dl_kinds.specs.declared.runs.Run.{Run}
use Rattle.dl_history.specs.StandingClaims.{blocks_in}
use Rattle.piece_table.specs.Sums.{block_bytes}
use Rattle.machine_core.specs.OwnParts.{PayloadLengths}
use Rattle.machine_core.specs.Replays.{is_same_gid}
use Rattle.machine_core.specs.RunLegal.{known_lengths}
use Rattle.machine_core.specs.Starts.{RunStart}
use Rattle.machine_core.specs.declared.events.Event.{Event}
use Rattle.machine_core.specs.declared.events.Event.TheVariants.{Landed}
use Rattle.run_report.specs.declared.speeds.TheConstants.{SPEED_MS, SPEED_SECONDS}

-- the moment is later than ten seconds before `now`
abbrev pub is_recent : Moment → Moment → Bool
is_recent now moment = nat_lt now.0 (moment.0 + SPEED_MS)

-- the bytes of the blocks of a run
abbrev pub run_bytes : PayloadLengths → Run → ℕ
run_bytes lengths run = sum_by (block_bytes lengths.total lengths.piece_len) (blocks_in run)

-- the landings of this download count, and without one those of all
abbrev pub counts_gid : Option Gid → Gid → Bool
counts_gid None gid = true
counts_gid (Some counted) gid = is_same_gid counted gid

-- the bytes that an event brought in the last ten seconds
abbrev pub recent_bytes : (Gid → PayloadLengths) → Option Gid → Moment → Event → ℕ
recent_bytes lengths_of which now (Landed gid id mirror run moment) =
    if counts_gid which gid && is_recent now moment then run_bytes (lengths_of gid) run else 0
recent_bytes lengths_of which now e = 0

-- the download whose blocks landed
abbrev pub landed_gid : Event → Option Gid
landed_gid (Landed gid id mirror run moment) = Some gid
landed_gid e = None

-- the bytes of a second. What is beyond a number of 64 bits counts as the greatest
abbrev pub speed_in : RunStart → List Event → Option Gid → Moment → ℕ
speed_in start past which now =
    min (sum_by (recent_bytes (known_lengths start past) which now) past) (2 ^ 64 - 1) / SPEED_SECONDS

abbrev pub speed_of : RunStart → List Event → Gid → Moment → ℕ
speed_of start past gid now = speed_in start past (Some gid) now

-- .. of all downloads
abbrev pub speed_of_all : RunStart → List Event → Moment → ℕ
speed_of_all start past now = speed_in start past None now
