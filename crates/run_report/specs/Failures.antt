-- How the downloads of a run ended, and by that the run. A history has its newest event first.
use Rattle.std.specs.Prelude.{◌≡◌, ℕ, ◌==◌, ◌&&◌, Bool, true, false, not, if◌then◌else◌, Option, Some, None, List, length, slice_get}
use Rattle.std.specs.List.{filter_map}
use Rattle.std.specs.BTreeMap.{BTreeMap, get}
use Rattle.std.specs.Ordering.{nat_cmp}
use Rattle.dl_kinds.specs.declared.gid.Gid.{Gid}
use Rattle.dl_queue.specs.Lists.{QueueLists}
use Rattle.machine_core.specs.Replays.{is_same_gid, queue_in}
use Rattle.machine_core.specs.Starts.{RunStart}
use Rattle.machine_core.specs.declared.ends.End.{End}
use Rattle.machine_core.specs.declared.ends.End.TheVariants.{Complete}
use Rattle.machine_core.specs.declared.events.Event.{Event}
use Rattle.machine_core.specs.declared.events.Event.TheVariants.{Ended}
use Rattle.run_report.specs.declared.endings.RunEnding.{RunEnding}
use Rattle.run_report.specs.declared.endings.RunEnding.TheVariants.{Failed, Unfinished, Done}

-- the end of the download that an event is
abbrev pub end_by : Gid → Event → Option End
end_by gid (Ended other how) = if is_same_gid gid other then Some how else None
end_by gid e = None

-- how the download ended, if it did: by its newest end
abbrev pub end_of : List Event → Gid → Option End
end_of past gid = slice_get (filter_map (end_by gid) past) 0

-- an end by an error
abbrev pub failure_by : End → Option End
failure_by Complete = None
failure_by how = Some how

abbrev pub failure_in : Event → Option End
failure_in (Ended gid how) = failure_by how
failure_in e = None

-- the last end by an error
abbrev pub last_failure : List Event → Option End
last_failure past = slice_get (filter_map failure_in past) 0

-- some download is active, waits or is paused
abbrev pub has_unfinished : QueueLists → Bool
has_unfinished queue = not (length queue.active == 0 && length queue.waiting == 0)

abbrev pub ending_by : Option End → Bool → RunEnding
ending_by (Some how) unfinished = Failed how
ending_by None true = Unfinished
ending_by None false = Done

-- how a run ends, where memory sufficed and the output didn't fail
abbrev pub ending_by_history : RunStart → List Event → RunEnding
ending_by_history start past = ending_by (last_failure past) (has_unfinished (queue_in start past))

-- the end of each download stands under its gid
pub record HasEnds (ends : BTreeMap ℕ End) (past : List Event) : Type 0 where
  pub each : (gid : Gid) → get nat_cmp ends gid.0 ≡ end_of past gid
