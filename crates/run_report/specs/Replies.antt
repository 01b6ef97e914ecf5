-- What calls are answered, by the history before them (aria2 manual, "RPC interface").
use Rattle.std.specs.Prelude.{◌≡◌, ℕ, ◌-◌, Bool, true, false, Option, Some, None, Result, Ok, Err, List, length, map}
use Rattle.std.specs.List.{filter_map}
use Rattle.std.specs.Option.{option_map}
use Rattle.dl_kinds.specs.declared.gid.Gid.{Gid}
use Rattle.dl_kinds.specs.declared.gid_key.GidKey.{GidKey}
use Rattle.dl_kinds.specs.declared.runs.Moment.{Moment}
use Rattle.dl_history.specs.StandingClaims.{standing_claims}
use Rattle.dl_queue.specs.Lists.{QueueLists}
use Rattle.dl_queue.specs.declared.kinds.Queued.{Queued}
use Rattle.dl_queue.specs.declared.kinds.QueueErr.{QueueErr}
use Rattle.dl_queue.specs.declared.kinds.QueueErr.TheVariants.{NotFound}
use Rattle.dl_queue.specs.declared.kinds.Stopped.{Stopped}
use Rattle.option_set.specs.Values.{shown_options}
use Rattle.option_set.specs.declared.kinds.Scope.TheVariants as scope
use Rattle.machine_core.specs.Answers.{applied_by, find_keyed}
use Rattle.machine_core.specs.Choices.{options_now}
use Rattle.machine_core.specs.OwnParts.{own_of}
use Rattle.machine_core.specs.Replays.{queue_in, replay_of}
use Rattle.machine_core.specs.RunLegal.{download_in, known_lengths}
use Rattle.machine_core.specs.Starts.{RunStart, Download}
use Rattle.machine_core.specs.declared.applied.Applied.{Applied}
use Rattle.machine_core.specs.declared.applied.Applied.TheVariants as applied
use Rattle.machine_core.specs.declared.calls.Call.{Call}
use Rattle.machine_core.specs.declared.calls.Call.TheVariants as call
use Rattle.machine_core.specs.declared.events.Event.{Event}
use Rattle.run_report.specs.Files.{file_views}
use Rattle.run_report.specs.Speeds.{speed_of_all}
use Rattle.run_report.specs.Statuses.{status_view_of}
use Rattle.run_report.specs.Subjects.{AreNames}
use Rattle.run_report.specs.Uris.{uri_views}
use Rattle.run_report.specs.Windows.{window}
use Rattle.run_report.specs.declared.kinds.Reply.{Reply}
use Rattle.run_report.specs.declared.kinds.Reply.TheVariants as reply
use Rattle.run_report.specs.declared.views.StatView.{StatView}
use Rattle.run_report.specs.declared.views.StatusView.{StatusView}

-- ---- calls

-- it changes nothing but the history
abbrev pub is_asking : Call → Bool
is_asking (call.TellStatus key) = true
is_asking call.TellActive = true
is_asking (call.TellWaiting offset num) = true
is_asking (call.TellStopped offset num) = true
is_asking (call.GetUris key) = true
is_asking (call.GetFiles key) = true
is_asking (call.GetOption key) = true
is_asking call.GetGlobalOption = true
is_asking call.GetGlobalStat = true
is_asking call.GetVersion = true
is_asking other = false

-- ---- the lists

abbrev pub waiting_gids : QueueLists → List Gid
waiting_gids queue = map (λ (q : Queued). q.gid) queue.waiting

abbrev pub stopped_gids : QueueLists → List Gid
stopped_gids queue = map (λ (s : Stopped). s.gid) queue.stopped

abbrev pub statuses_of : RunStart → List Event → Moment → (Gid → List ℕ) → List Gid → List StatusView
statuses_of start past now names gids = filter_map (status_view_of start past now names) gids

-- of those that were added, those that aren't active and don't wait have stopped
abbrev pub stopped_ever : QueueLists → ℕ
stopped_ever queue = length queue.added - length queue.active - length queue.waiting

abbrev pub stat_view : RunStart → List Event → Moment → StatView
stat_view start past now =
    let queue = queue_in start past in
    record {
      download_speed = speed_of_all start past now;
      num_active = length queue.active;
      num_stopped = length queue.stopped;
      num_stopped_total = stopped_ever queue;
      num_waiting = length queue.waiting;
      upload_speed = 0;
    }

-- ---- one download

abbrev pub reply_if : Option Reply → Reply
reply_if None = reply.Refused NotFound
reply_if (Some answer) = answer

abbrev pub found_reply : Result Gid QueueErr → (Gid → Option Reply) → Reply
found_reply (Err refused) answer = reply.Refused refused
found_reply (Ok gid) answer = reply_if (answer gid)

-- the reply on the download that a key names
abbrev pub keyed_reply : RunStart → List Event → GidKey → (Gid → Option Reply) → Reply
keyed_reply start past key answer = found_reply (find_keyed (queue_in start past) key) answer

abbrev pub status_reply : RunStart → List Event → (Gid → List ℕ) → Moment → Gid → Option Reply
status_reply start past names now gid = option_map reply.Status (status_view_of start past now names gid)

abbrev pub statuses_reply : RunStart → List Event → (Gid → List ℕ) → Moment → List Gid → Reply
statuses_reply start past names now gids = reply.Statuses (statuses_of start past now names gids)

-- the mirrors of the first file
abbrev pub uris_reply : RunStart → List Event → Gid → Option Reply
uris_reply start past gid =
    option_map
    (λ (d : Download). reply.Uris (uri_views (standing_claims (own_of start past gid)) d.subject 0))
    (download_in start past gid)

abbrev pub files_reply : RunStart → List Event → (Gid → List ℕ) → Gid → Option Reply
files_reply start past names gid =
    option_map
    (λ (d : Download). reply.Files (file_views d (names gid) (known_lengths start past gid) (own_of start past gid)))
    (download_in start past gid)

abbrev pub options_reply : RunStart → List Event → Gid → Option Reply
options_reply start past gid =
    option_map
    (λ (d : Download). reply.Options (shown_options (options_now start past d) scope.Download))
    (download_in start past gid)

-- ---- any call

-- what one that changes the run is answered
abbrev pub applied_reply : Applied → Reply
applied_reply (applied.Added gid) = reply.Gid gid
applied_reply (applied.Named gid) = reply.Gid gid
applied_reply applied.Fine = reply.Fine
applied_reply (applied.Moved place) = reply.Position place
applied_reply (applied.Refused refused) = reply.Refused refused
applied_reply applied.Asked = reply.Fine

-- the payloads of the downloads have these names
abbrev pub reply_of : RunStart → List Event → (Gid → List ℕ) → Call → Moment → Reply
reply_of start past names (call.TellStatus key) now =
    keyed_reply start past key (status_reply start past names now)
reply_of start past names call.TellActive now =
    statuses_reply start past names now (queue_in start past).active
reply_of start past names (call.TellWaiting offset num) now =
    statuses_reply start past names now (window offset num (waiting_gids (queue_in start past)))
reply_of start past names (call.TellStopped offset num) now =
    statuses_reply start past names now (window offset num (stopped_gids (queue_in start past)))
reply_of start past names (call.GetUris key) now = keyed_reply start past key (uris_reply start past)
reply_of start past names (call.GetFiles key) now = keyed_reply start past key (files_reply start past names)
reply_of start past names (call.GetOption key) now = keyed_reply start past key (options_reply start past)
reply_of start past names call.GetGlobalOption now =
    reply.Options (shown_options (replay_of start past).global scope.Global)
reply_of start past names call.GetGlobalStat now = reply.Stat (stat_view start past now)
reply_of start past names call.GetVersion now = reply.Version
reply_of start past names other now = applied_reply (applied_by start past other)

-- what the call is to be answered that comes next at this moment, where the payloads have their names
abbrev pub IsReplyAt : RunStart → List Event → Call → Moment → Reply → Type 0
IsReplyAt start past asked now answer =
    (names : Gid → List ℕ) → AreNames start past names → answer ≡ reply_of start past names asked now

-- a call that changes the run is answered what it was when it came
abbrev pub ChangesAreApplied : Type 0
ChangesAreApplied =
    (start : RunStart) (past : List Event) (names : Gid → List ℕ) (asked : Call) (now : Moment)
    → is_asking asked ≡ false → reply_of start past names asked now ≡ applied_reply (applied_by start past asked)
