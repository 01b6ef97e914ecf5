-- The queue, the downloads and the global options of a run, by its calls and the ends of its downloads.
use Rattle.std.specs.Prelude.{ℕ, ◌+◌, ◌*◌, ◌%◌, ◌^◌, ◌==◌, ◌&&◌, ◌++◌, Bool, true, false, not, if◌then◌else◌, Option, Some, None, List, [], ◌∷◌, filter, find, length, map, box_value}
use Rattle.std.specs.List.{list_any, range_with_len}
use Rattle.std.specs.Option.{is_some, unwrap_or}
use Rattle.std.specs.Str.Parse.{digits_value}
use Rattle.dl_kinds.specs.declared.gid.Gid.{Gid}
use Rattle.dl_kinds.specs.declared.gid_key.GidKey.{GidKey}
use Rattle.dl_kinds.specs.declared.status.Status.TheVariants as status
use Rattle.dl_queue.specs.Calls.{QueueCall, Add, SetLimit, Pause, Unpause, PauseAll, UnpauseAll, Remove, ChangePosition, Stop, Forget, Purge, after, refusal, names_gid}
use Rattle.dl_queue.specs.Lists.{QueueLists}
use Rattle.dl_queue.specs.declared.kinds.Queued.{Queued}
use Rattle.dl_queue.specs.declared.kinds.Stopped.{Stopped}
use Rattle.option_set.specs.Values.{OptionValues, with_setting, number_value, text_of_word}
use Rattle.option_set.specs.declared.kinds.Num.TheVariants as num
use Rattle.option_set.specs.declared.kinds.Word.TheVariants as word
use Rattle.option_set.specs.declared.setting.Assigned.{Assigned}
use Rattle.machine_core.specs.Starts.{RunStart, Download, Subject, Listed, Unlisted}
use Rattle.machine_core.specs.declared.calls.Call.{Call}
use Rattle.machine_core.specs.declared.calls.Call.TheVariants as call
use Rattle.machine_core.specs.declared.ends.End.{End}
use Rattle.machine_core.specs.declared.ends.End.TheVariants as end
use Rattle.machine_core.specs.declared.events.Event.{Event}
use Rattle.machine_core.specs.declared.events.Event.TheVariants.{Called, Ended}
use Rattle.machine_core.specs.declared.gids.TheConstants.{GID_STEP}

pub record Replay : Type 0 where
  pub queue : QueueLists
  pub downloads : List Download  -- in the order of their adding
  pub global : OptionValues
  pub shut : Bool  -- a Shutdown came

abbrev pub replay_start : RunStart → Replay
replay_start start =
    record {
      queue = record {
        limit = number_value start.global num.MaxConcurrentDownloads;
        active = [];
        waiting =
            [];
        stopped = [];
        added = [];
      };
      downloads = [];
      global = start.global;
      shut = false;
    }

-- ---- gids

-- the downloads that stand in the lists
abbrev pub queued_gids : QueueLists → List Gid
queued_gids queue =
    queue.active ++ map (λ (q : Queued). q.gid) queue.waiting ++ map (λ (s : Stopped). s.gid) queue.stopped

abbrev pub only_one : List Gid → Option Gid
only_one [] = None
only_one (gid ∷ []) = Some gid
only_one (gid ∷ other ∷ others) = None

-- the download that a key names, where it names just one
abbrev pub keyed_gid : QueueLists → GidKey → Option Gid
keyed_gid queue key = only_one (filter (names_gid key) (queued_gids queue))

abbrev pub is_same_gid : Gid → Gid → Bool
is_same_gid gid other = other.0 == gid.0

abbrev pub is_download : Gid → Download → Bool
is_download gid download = is_same_gid gid download.gid

abbrev pub download_of : List Download → Gid → Option Download
download_of downloads gid = find (is_download gid) downloads

abbrev pub gid_number : ℕ → ℕ → ℕ
gid_number gids place = (gids + place * GID_STEP) % 2 ^ 64

abbrev pub is_free_number : List Download → ℕ → Bool
is_free_number downloads number =
    not (number == 0) && not (list_any (λ (d : Download). d.gid.0 == number) downloads)

-- the first number of those that follow that is neither 0 nor used
abbrev pub made_number : ℕ → List Download → Option ℕ
made_number gids downloads =
    find (is_free_number downloads)
    (map (gid_number gids) (range_with_len (length downloads) (length downloads + 2)))

-- the gid that the options name
abbrev pub given_gid : Option (List ℕ) → ℕ → Gid
given_gid None number = record { 0 = number }
given_gid (Some text) number = record { 0 = digits_value 16 text }

-- the gid of the next download: the one that its options name, or the one that is made
abbrev pub next_gid : RunStart → List Download → OptionValues → Gid
next_gid start downloads options = given_gid (text_of_word options word.Gid)
    (unwrap_or (made_number start.gids downloads) 0)

-- ---- calls

abbrev pub with_settings : OptionValues → List Assigned → OptionValues
with_settings values [] = values
with_settings values (setting ∷ settings) = with_settings (with_setting values setting) settings

abbrev pub with_call : Replay → QueueCall → Replay
with_call replay queue_call = record replay { queue = after replay.queue queue_call }

-- a call of a download, if there is one
abbrev pub with_call_of : Replay → (Gid → QueueCall) → Option Gid → Replay
with_call_of replay queue_call None = replay
with_call_of replay queue_call (Some gid) = with_call replay (queue_call gid)

-- a call of the download that a key names; none, where it names no one
abbrev pub with_keyed : Replay → GidKey → (Gid → QueueCall) → Replay
with_keyed replay key queue_call = with_call_of replay queue_call (keyed_gid replay.queue key)

abbrev pub is_refused : QueueLists → QueueCall → Bool
is_refused queue queue_call = is_some (refusal queue queue_call)

-- a download is added, where the queue takes it
abbrev pub with_download : RunStart → Replay → Subject → List Assigned → Option ℕ → Replay
with_download start replay subject settings position =
    let options = with_settings replay.global settings in
    let gid = next_gid start replay.downloads options in
    let queue_call = Add gid options (not (number_value options num.Pause == 0)) position in
    if is_refused replay.queue queue_call then replay
    else record (with_call replay queue_call) {
      downloads = replay.downloads ++ record { gid = gid; subject = subject; options = options } ∷ [];
    }

abbrev pub after_call : RunStart → Replay → Call → Replay
after_call start replay (call.AddUri uris options position) =
    with_download start replay (Unlisted uris) options position
after_call start replay (call.AddTorrent meta uris options position) =
    with_download start replay (Listed (box_value meta) uris) options position
after_call start replay (call.Remove key) = with_keyed replay key Remove
after_call start replay (call.Pause key) = with_keyed replay key Pause
after_call start replay (call.Unpause key) = with_keyed replay key Unpause
after_call start replay call.PauseAll = with_call replay PauseAll
after_call start replay call.UnpauseAll = with_call replay UnpauseAll
after_call start replay (call.ChangeGlobalOption options) =
    let global = with_settings replay.global options in
    record (with_call replay (SetLimit (number_value global num.MaxConcurrentDownloads))) { global = global }
after_call start replay (call.ChangePosition key position how) =
    with_keyed replay key (λ gid. ChangePosition gid position how)
after_call start replay call.Purge = with_call replay Purge
after_call start replay (call.RemoveResult key) = with_keyed replay key Forget
after_call start replay call.Shutdown = record replay { shut = true }
after_call start replay other = replay

-- ---- ends

-- an end stops its download
abbrev pub stop_of : Gid → End → QueueCall
stop_of gid end.Complete = Stop gid status.Complete
stop_of gid other = Stop gid status.Failed

-- ---- any event

abbrev pub replay_of : RunStart → List Event → Replay
replay_of start [] = replay_start start
replay_of start (Called session asked now ∷ before) = after_call start (replay_of start before) asked
replay_of start (Ended gid how ∷ before) = with_call (replay_of start before) (stop_of gid how)
replay_of start (e ∷ before) = replay_of start before

abbrev pub queue_in : RunStart → List Event → QueueLists
queue_in start past = (replay_of start past).queue

abbrev pub has_active : QueueLists → Gid → Bool
has_active queue gid = list_any (is_same_gid gid) queue.active

abbrev pub is_active_in : RunStart → List Event → Gid → Bool
is_active_in start past gid = has_active (queue_in start past) gid

-- the downloads of a run, in the order of their adding
abbrev pub gids_in : RunStart → List Event → List Gid
gids_in start past = map (λ (download : Download). download.gid) (replay_of start past).downloads
