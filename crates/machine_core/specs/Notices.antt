-- The notices of a run, by its events (aria2 manual, "RPC interface": the notifications of the server, as `aria2.onDownloadStart`).
use Rattle.std.specs.Prelude.{◌≡◌, ℕ, ◌+◌, ◌==◌, ◌&&◌, ◌||◌, ◌++◌, Bool, true, false, not, if◌then◌else◌, nat_lt, Option, Some, None, List, [], ◌∷◌, drop, filter, filter_map, length, map, take}
use Rattle.std.specs.Option.{is_some, option_and_then, option_map}
use Rattle.dl_kinds.specs.declared.status.Status.{Status}
use Rattle.dl_kinds.specs.declared.status.Status.TheVariants.{Active, Waiting, Paused, Failed, Complete, Removed}
use Rattle.dl_queue.specs.Places.{status_of}
use Rattle.option_set.specs.Values.{number_value}
use Rattle.option_set.specs.declared.kinds.Num.TheVariants as num
use Rattle.machine_core.specs.Replays.{download_of, queue_in, replay_of}
use Rattle.machine_core.specs.Starts.{RunStart, Download}
use Rattle.machine_core.specs.declared.events.Event.{Event}
use Rattle.machine_core.specs.declared.notices.Cursor.{Cursor}
use Rattle.machine_core.specs.declared.notices.Notice.{Notice}
use Rattle.machine_core.specs.declared.notices.NoticeKind.{NoticeKind}
use Rattle.machine_core.specs.declared.notices.NoticeKind.TheVariants as kind
use Rattle.machine_core.specs.declared.notices.PlacedNotice.{PlacedNotice}
use Rattle.machine_core.specs.declared.notices.TheConstants.{MOST_NOTICES}

-- ---- statuses

-- what a status is told as
abbrev pub kind_by : Status → Option NoticeKind
kind_by Active = Some kind.Start
kind_by Paused = Some kind.Pause
kind_by Removed = Some kind.Stop
kind_by Complete = Some kind.Complete
kind_by Failed = Some kind.Error
kind_by Waiting = None

abbrev pub is_same_status : Status → Status → Bool
is_same_status Active Active = true
is_same_status Waiting Waiting = true
is_same_status Paused Paused = true
is_same_status Failed Failed = true
is_same_status Complete Complete = true
is_same_status Removed Removed = true
is_same_status status other = false

-- whether the status is just this one; a download that stands in no list has none
abbrev pub has_status : Status → Option Status → Bool
has_status status None = false
has_status status (Some other) = is_same_status status other

-- what a change of the status is told as
abbrev pub kind_of_change : Option Status → Option Status → Option NoticeKind
kind_of_change before None = None
kind_of_change before (Some status) = if has_status status before then None else kind_by status

-- what a new download counts as before its event
abbrev pub counts_as : Download → Status
counts_as download = if number_value download.options num.Pause == 0 then Waiting else Paused

-- a status before the event
abbrev pub status_before : RunStart → List Event → Download → Option Status
status_before start past download =
    if is_some (download_of (replay_of start past).downloads download.gid)
    then status_of (queue_in start past) download.gid else Some (counts_as download)

-- ---- notices

-- the notice of a download, if its status changed by the event
abbrev pub notice_of : RunStart → List Event → Event → Download → Option Notice
notice_of start past e download =
    option_map (λ (told : NoticeKind). record { kind = told; gid = download.gid })
    (kind_of_change (status_before start past download) (status_of (queue_in start (e ∷ past)) download.gid))

-- the notices of an event, in the order in which the downloads were added
abbrev pub notices_at : RunStart → List Event → Event → List Notice
notices_at start past e = filter_map (notice_of start past e) (replay_of start (e ∷ past)).downloads

-- the notices of the event at a place, numbered from `nth` on
abbrev pub placed : ℕ → ℕ → List Notice → List PlacedNotice
placed event nth [] = []
placed event nth (notice ∷ notices) =
    record { at = record { event = event; nth = nth }; notice = notice } ∷ placed event (nth + 1) notices

-- the notices of a history, the oldest first
abbrev pub notices_in : RunStart → List Event → List PlacedNotice
notices_in start [] = []
notices_in start (e ∷ past) = notices_in start past ++ placed (length past) 0 (notices_at start past e)

-- ---- places

abbrev pub comes_before : Cursor → Cursor → Bool
comes_before at other = nat_lt at.event other.event || at.event == other.event && nat_lt at.nth other.nth

-- the place behind all notices of a history
abbrev pub end_of : List Event → Cursor
end_of past = record { event = length past; nth = 0 }

-- a place that isn't behind the end
abbrev pub IsWithin : List Event → Cursor → Type 0
IsWithin past from = comes_before (end_of past) from ≡ false

-- the notices from a place on
abbrev pub due : RunStart → List Event → Cursor → List PlacedNotice
due start past from = filter (λ (p : PlacedNotice). not (comes_before p.at from)) (notices_in start past)

-- where the first of some notices stands
abbrev pub first_place : Cursor → List PlacedNotice → Cursor
first_place behind [] = behind
first_place behind (p ∷ others) = p.at

-- the place behind those that are told from a place on
abbrev pub upto : RunStart → List Event → Cursor → Cursor
upto start past from = first_place (end_of past) (drop MOST_NOTICES (due start past from))

-- the next notices from a place on, and the place behind them
pub record TellsNotices (start : RunStart) (past : List Event) (from : Cursor) (told : List Notice × Cursor) : Type 0
  where
    pub list : told.0 ≡ map (λ (p : PlacedNotice). p.notice) (take MOST_NOTICES (due start past from))
    pub upto_is : told.1 ≡ upto start past from

-- ---- what goes on

-- what is told, and then what is due from there, is what was due and what came since, whatever events came
abbrev pub NoticesGoOn : Type 0
NoticesGoOn =
    (start : RunStart) (past events : List Event) (from : Cursor) → IsWithin past from
    → due start (events ++ past) from
    ≡ take MOST_NOTICES (due start past from) ++ due start (events ++ past) (upto start past from)

-- the place behind those that are told is within the history
abbrev pub UptoIsWithin : Type 0
UptoIsWithin = (start : RunStart) (past : List Event) (from : Cursor) → IsWithin past (upto start past from)

-- a place within a history stays so
abbrev pub WithinStays : Type 0
WithinStays = (past events : List Event) (from : Cursor) → IsWithin past from → IsWithin (events ++ past) from

-- nothing is due at the end
abbrev pub NoneIsDueAtEnd : Type 0
NoneIsDueAtEnd = (start : RunStart) (past : List Event) → due start past (end_of past) ≡ []
