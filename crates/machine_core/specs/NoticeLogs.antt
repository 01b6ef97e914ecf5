-- What is kept of the notices of a history, and of the queue behind the events that were gone through.
use Rattle.std.specs.Prelude.{◌≡◌, ℕ, ◌<◌, ◌≤◌, ◌==◌, ◌++◌, Bool, true, false, not, if◌then◌else◌, Option, Some, List, [], ◌∷◌, drop, filter, length, map, reverse, slice_get, take}
use Rattle.std.specs.List.{cons_option}
use Rattle.std.specs.Option.{option_map}
use Rattle.dl_kinds.specs.declared.gid.Gid.{Gid}
use Rattle.dl_kinds.specs.declared.status.Status.{Status}
use Rattle.dl_kinds.specs.declared.status.Status.TheVariants.{Paused, Waiting}
use Rattle.dl_queue.specs.Calls.{after}
use Rattle.dl_queue.specs.Lists.{QueueLists}
use Rattle.dl_queue.specs.Places.{status_of}
use Rattle.dl_queue.specs.declared.kinds.Added.{Added}
use Rattle.option_set.specs.Values.{OptionValues, number_value}
use Rattle.option_set.specs.declared.kinds.Num.TheVariants as num
use Rattle.option_set.specs.declared.setting.Assigned.{Assigned}
use Rattle.machine_core.specs.KeptQueues.{KeepsQueue, add_call, added_as}
use Rattle.machine_core.specs.Notices.{comes_before, first_place, kind_of_change, notices_in, placed}
use Rattle.machine_core.specs.Replays.{Replay, after_call, next_gid, replay_of, with_settings}
use Rattle.machine_core.specs.Starts.{RunStart, Download}
use Rattle.machine_core.specs.declared.calls.Call.{Call}
use Rattle.machine_core.specs.declared.calls.Call.TheVariants as call
use Rattle.machine_core.specs.declared.events.Event.{Event}
use Rattle.machine_core.specs.declared.events.Event.TheVariants.{Called, Ended}
use Rattle.machine_core.specs.declared.notice_log.NoticeLog.{NoticeLog}
use Rattle.machine_core.specs.declared.notices.Cursor.{Cursor}
use Rattle.machine_core.specs.declared.notices.Notice.{Notice}
use Rattle.machine_core.specs.declared.notices.NoticeKind.{NoticeKind}
use Rattle.machine_core.specs.declared.notices.PlacedNotice.{PlacedNotice}
use Rattle.machine_core.specs.declared.notices.TheConstants.{MOST_NOTICES}

-- ---- a queue that follows

-- the queue and the global options of a replay
abbrev pub FollowsQueue : Replay → QueueLists → OptionValues → Type 0
FollowsQueue r queue global = KeepsQueue r queue global r.shut

-- what a plain call makes of a queue that follows
abbrev pub FollowsPlain : Call → QueueLists → QueueLists → Type 0
FollowsPlain asked old new =
    (start : RunStart) (r : Replay) (global : OptionValues) → FollowsQueue r old global
    → FollowsQueue (after_call start r asked) new global

-- the queue after the adding of a download with these settings
pub record IsQueueAddition (gids : ℕ) (global : OptionValues) (settings : List Assigned) (position : Option ℕ)
    (old new : QueueLists) : Type 0 where
  pub gid : Gid
  pub made : (start : RunStart) (downloads : List Download) → start.gids ≡ gids → old.added ≡ map added_as downloads
      → gid ≡ next_gid start downloads (with_settings global settings)
  pub queue : new ≡ after old (add_call gid (with_settings global settings) position)

-- .. and any call of queue and global options
abbrev pub FollowsCall : ℕ → Call → QueueLists → QueueLists → OptionValues → OptionValues → Type 0
FollowsCall gids asked old new was is =
    (start : RunStart) (r : Replay) → start.gids ≡ gids → FollowsQueue r old was
    → FollowsQueue (after_call start r asked) new is

-- .. and any event
abbrev pub FollowsEvent : ℕ → Event → QueueLists → QueueLists → OptionValues → OptionValues → Type 0
FollowsEvent gids e old new was is =
    (start : RunStart) (past : List Event) → start.gids ≡ gids → FollowsQueue (replay_of start past) old was
    → FollowsQueue (replay_of start (e ∷ past)) new is

-- the call leaves queue and global options as they are, and doesn't shut the run down
abbrev pub asks : Call → Bool
asks (call.AddUri uris options position) = false
asks (call.AddTorrent meta uris options position) = false
asks (call.Remove key) = false
asks (call.Pause key) = false
asks (call.Unpause key) = false
asks call.PauseAll = false
asks call.UnpauseAll = false
asks (call.ChangeGlobalOption options) = false
asks (call.ChangePosition key position how) = false
asks call.Purge = false
asks (call.RemoveResult key) = false
asks call.Shutdown = false
asks other = true

-- .. or another event leaves them so
abbrev pub is_quiet : Event → Bool
is_quiet (Called session asked now) = asks asked
is_quiet (Ended gid how) = false
is_quiet e = true

-- ---- notices by statuses

-- the notice of a download, if its status changed
abbrev pub change_of : Option Status → Option Status → Gid → Option Notice
change_of before after gid =
    option_map (λ (told : NoticeKind). record { kind = told; gid = gid }) (kind_of_change before after)

-- the notices of downloads that had these statuses, by those in a queue
abbrev pub changes : List (Option Status) → QueueLists → List Added → List Notice
changes [] queue added = []
changes (before ∷ statuses) queue [] = []
changes (before ∷ statuses) queue (download ∷ added) =
    cons_option (change_of before (status_of queue download.gid) download.gid) (changes statuses queue added)

-- a notice is told at a place, if there is one: with those behind it they are all
abbrev pub TellsOne : ℕ → Option Notice → ℕ → ℕ → List PlacedNotice → List PlacedNotice → Type 0
TellsOne event notice nth next old new =
    (others : List Notice) → new ++ placed event next others ≡ old ++ placed event nth (cons_option notice others)

-- the statuses of downloads in a queue
abbrev pub statuses_in : QueueLists → List Added → List (Option Status)
statuses_in queue added = map (λ (download : Added). status_of queue download.gid) added

-- the statuses of the first `n` downloads are those in a queue, and the others as before
pub record AreNotedTo (n : ℕ) (queue : QueueLists) (old new : List (Option Status)) : Type 0 where
  pub many : length new ≡ length old
  pub noted : (i : ℕ) (download : Added) → i < n → slice_get queue.added i ≡ Some download
      → slice_get new i ≡ Some (status_of queue download.gid)
  pub others : (i : ℕ) → n ≤ i → slice_get new i ≡ slice_get old i

-- the notices of an event are told behind the others, and the statuses are those in a queue, where there are as many
abbrev pub IsNoted : ℕ → QueueLists → List (Option Status) → List (Option Status) → List PlacedNotice
    → List PlacedNotice → Type 0
IsNoted event queue old new was is =
    length old ≡ length queue.added → (new ≡ statuses_in queue queue.added)
    × (is ≡ was ++ placed event 0 (changes old queue queue.added))

-- what a download counts as before it is added
abbrev pub counts_as_added : Added → Status
counts_as_added download = if number_value download.options num.Pause == 0 then Waiting else Paused

-- the status of a download behind those that were seen is what it counts as
pub record AreCounted (added : List Added) (old new : List (Option Status)) : Type 0 where
  pub none : length added ≤ length old → new ≡ old
  pub one : (download : Added) → slice_get added (length old) ≡ Some download
      → new ≡ old ++ Some (counts_as_added download) ∷ []

-- ---- the log

-- all is of the history of the events that were gone through
pub record KeepsLog (start : RunStart) (covered : List Event) (log : NoticeLog) : Type 0 where
  pub queue : FollowsQueue (replay_of start covered) log.queue log.global
  pub seen : log.seen.items ≡ statuses_in log.queue log.queue.added
  pub told : log.told.items ≡ notices_in start covered

-- .. which are the first of a journal
pub record KeepsLogged (start : RunStart) (events : List Event) (log : NoticeLog) : Type 0 where
  pub within : log.covered ≤ length events
  pub log_is : KeepsLog start (reverse (take log.covered events)) log

-- the log goes through one event more
pub record TakesIn (gids : ℕ) (e : Event) (old new : NoticeLog) : Type 0 where
  pub takes : (start : RunStart) (past : List Event) → start.gids ≡ gids → old.covered ≡ length past
      → KeepsLog start past old → KeepsLog start (e ∷ past) new

-- only the room of a log is another
pub record IsSameLog (old new : NoticeLog) : Type 0 where
  pub covered : new.covered ≡ old.covered
  pub queue : new.queue ≡ old.queue
  pub global : new.global ≡ old.global
  pub seen : new.seen.items ≡ old.seen.items
  pub told : new.told.items ≡ old.told.items

-- the log still is of a journal
pub record StaysLogged (gids : ℕ) (events : List Event) (old new : NoticeLog) : Type 0 where
  pub stays : (start : RunStart) → start.gids ≡ gids → KeepsLogged start events old → KeepsLogged start events new

-- .. and went through all of it
pub record CatchesUp (gids : ℕ) (events : List Event) (old new : NoticeLog) : Type 0 where
  pub all : (start : RunStart) → start.gids ≡ gids → KeepsLogged start events old
      → KeepsLog start (reverse events) new

-- ---- looking up

abbrev pub from_on : List PlacedNotice → Cursor → List PlacedNotice
from_on told from = filter (λ (p : PlacedNotice). not (comes_before p.at from)) told

-- those before a place stand before all others
abbrev pub AreSplitBy : List PlacedNotice → Cursor → Type 0
AreSplitBy told from =
    (i j : ℕ) (one other : PlacedNotice) → i ≤ j → slice_get told i ≡ Some one → slice_get told j ≡ Some other
    → comes_before other.at from ≡ true → comes_before one.at from ≡ true

-- the next of some notices from a place on, and the place behind them
pub record TellsNext (all : List PlacedNotice) (behind from : Cursor) (told : List Notice × Cursor) : Type 0 where
  pub list : told.0 ≡ map (λ (p : PlacedNotice). p.notice) (take MOST_NOTICES (from_on all from))
  pub upto_is : told.1 ≡ first_place behind (drop MOST_NOTICES (from_on all from))
