-- A run whose line adds a download that may be fetched has work for its worker.
use Rattle.std.proofs.Common.{◌≡◌, ◌⊎◌, ℕ, ◌+◌, ◌≤◌, Bool, true, false, cond, Option, Some, None, List, [], ◌∷◌, ◌++◌, length, refl, sym, ap, ◌∙◌, subst, inl, inr}
use Rattle.std.specs.Prelude.{◌==◌, box_value, not}
use Rattle.std.proofs.lemmas.List.Elements.{All-head, All-tail}
use Rattle.dl_kinds.specs.declared.gid.Gid.{Gid}
use Rattle.dl_kinds.specs.declared.runs.Moment.{Moment}
use Rattle.dl_kinds.specs.declared.status.Status.{Status}
use Rattle.dl_kinds.specs.declared.status.Status.TheVariants.{Active, Complete, Failed}
use Rattle.dl_queue.specs.Calls.{Add, Stop, after, refusal, stopped_from, unless_refused}
use Rattle.dl_queue.specs.Lists.{QueueLists}
use Rattle.dl_queue.specs.Places.{status_of}
use Rattle.dl_queue.specs.declared.kinds.Ending.{Ending}
use Rattle.dl_queue.specs.declared.kinds.QueueErr.{QueueErr}
use Rattle.served_runs.proofs.TurnCalls.{AreOfOnes, IsOfOne}
use Rattle.command_line.specs.declared.source.Source.{Source}
use Rattle.command_line.specs.declared.source.Source.TheVariants as source
use Rattle.engine_turns.specs.Told.{history_after}
use Rattle.command_call.specs.Sources.{AddsNamed, IsNamedCall}
use Rattle.machine_core.specs.Choices.{options_now}
use Rattle.machine_core.specs.LawfulCalls.{IsLawful}
use Rattle.machine_core.specs.Replays.{Replay, download_of, is_refused, is_same_gid, next_gid, queue_in, replay_of, replay_start, stop_of, with_call, with_download, with_settings}
use Rattle.machine_core.specs.RunLegal.{mirrors_by}
use Rattle.machine_core.specs.Starts.{Download, Listed, RunStart, Subject, Unlisted}
use Rattle.machine_core.specs.declared.calls.Call.{Call}
use Rattle.machine_core.specs.declared.calls.Call.TheVariants.{AddTorrent, AddUri}
use Rattle.machine_core.specs.declared.ends.End.{End}
use Rattle.machine_core.specs.declared.ends.End.TheVariants as end
use Rattle.machine_core.specs.declared.events.Event.{Event}
use Rattle.machine_core.specs.declared.events.Event.TheVariants.{Called, Checked, Claimed, Cleared, Ended, Landed, Left, Lost, Opened, Saved, Settled, Sized, Stopped}
use Rattle.option_set.specs.Values.{OptionValues, number_value}
use Rattle.option_set.specs.declared.kinds.Num.TheVariants as num
use Rattle.option_set.specs.declared.setting.Assigned.{Assigned}
use Rattle.worker_turns.specs.Leisure.{IsWorkable}
use Rattle.solo_run.proofs.Steps.{Adds, EachBefore, OrderlyRun}

-- ---- calls

-- mirrors have tries, and claims may stand
pub record LeavesRoom (values : OptionValues) : Type 0 where
  pub tries : 1 ≤ number_value values num.MaxTries
  pub per_host : 1 ≤ number_value values num.MaxConnectionPerServer
  pub split : 1 ≤ number_value values num.Split

-- the call adds a download that has a mirror, with such options
abbrev pub AddsFetched : RunStart → Call → Type 0
AddsFetched start (AddUri uris options position) =
    (1 ≤ length uris) × LeavesRoom (with_settings start.global options)
AddsFetched start (AddTorrent meta uris options position) =
    (1 ≤ length (box_value meta).seeds + length uris) × LeavesRoom (with_settings start.global options)
AddsFetched start other = ⊥

adds_named : (start : RunStart) (uris : List (List ℕ)) (settings : List Assigned) (call : Call)
    → AddsNamed uris settings call → IsLawful call → LeavesRoom (with_settings start.global settings)
    → AddsFetched start call
adds_named start uris settings (AddTorrent meta its_uris its_options position) named lawful room =
    (lawful.mirrors.some, subst (λ (os : List Assigned). LeavesRoom (with_settings start.global os)) (sym named.1) room)
adds_named start uris settings other named lawful room = absurd named

adds_uris : (start : RunStart) (call : Call) (uris : List (List ℕ)) (settings : List Assigned)
    → call ≡ AddUri uris settings None → IsLawful call → LeavesRoom (with_settings start.global settings)
    → AddsFetched start call
adds_uris start call uris settings is lawful room =
    subst (AddsFetched start) (sym is) ((subst IsLawful is lawful).0.some, room)

pub line_adds : (start : RunStart) (its : Source) (settings : List Assigned) (call : Call)
    → IsNamedCall its settings (Some call) → IsLawful call → LeavesRoom (with_settings start.global settings)
    → AddsFetched start call
line_adds start (source.Metainfo file uris) settings call named lawful room =
    adds_named start uris settings call named lawful room
line_adds start (source.Mirrors uris) settings call named lawful room =
    adds_uris start call uris settings
    (let same : Some call ≡ Some (AddUri uris settings None) = named in let it : call ≡ AddUri uris settings None = cc in it)
    lawful room
line_adds start source.Console settings call named lawful room = absurd (let e : Some call ≡ None = named in cc)

-- each call of the history does
abbrev pub IsFetchedCall : RunStart → Event → Type 0
IsFetchedCall start (Called session call now) = AddsFetched start call
IsFetchedCall start e = Unit {0}

abbrev pub AddFetched : RunStart → List Event → Type 0
AddFetched start past = EachBefore (λ before e. IsFetchedCall start e) past

work_fetched : (start : RunStart) (e : Event) → IsOfOne e → IsFetchedCall start e
work_fetched start (Called session call now) is = absurd (let never : None ≡ Some is.0 = is.1 in cc)
work_fetched start e is = tt

pub fetched_on : (start : RunStart) (past events : List Event) → AddFetched start past → AreOfOnes events
    → AddFetched start (history_after past events)
fetched_on start past [] was own = was
fetched_on start past (e ∷ events) was own =
    fetched_on start (e ∷ past) events (was, work_fetched start e (All-head IsOfOne e events own))
    (All-tail IsOfOne e events own)

-- ---- the download

pub record IsFetched (start : RunStart) (d : Download) : Type 0 where
  pub mirrors : 1 ≤ mirrors_by d.subject
  pub room : LeavesRoom d.options

abbrev AreFetched : RunStart → List Download → Type 0
AreFetched start downloads = (downloads ≡ []) ⊎ ((d : Download) × IsFetched start d × (downloads ≡ d ∷ []))

either_list : (start : RunStart) (t : Bool) (none some : Replay) → none.downloads ≡ [] → AreFetched start some.downloads
    → AreFetched start (cond t none some).downloads
either_list start true none some is few = inl is
either_list start false none some is few = few

added_fetched : (start : RunStart) (subject : Subject) (options : List Assigned) (position : Option ℕ)
    → 1 ≤ mirrors_by subject → LeavesRoom (with_settings start.global options)
    → AreFetched start (with_download start (replay_start start) subject options position).downloads
added_fetched start subject options position some room =
    let chosen = with_settings start.global options in
    let d : Download = record { gid = next_gid start [] chosen; subject = subject; options = chosen } in
    let queue_call = Add d.gid chosen (not (number_value chosen num.Pause == 0)) position in
    either_list start (is_refused (replay_start start).queue queue_call) (replay_start start)
    (record (with_call (replay_start start) queue_call) { downloads = [] ++ d ∷ [] }) refl
    (inr (d, record { mirrors = some; room = room }, refl))

called_fetched : (start : RunStart) (before : List Event) (session : ℕ) (call : Call) (now : Moment) → before ≡ []
    → AddsFetched start call → AreFetched start (replay_of start (Called session call now ∷ before)).downloads
called_fetched start before session (AddUri uris options position) now first adds =
    subst (λ (p : List Event).
    AreFetched start (replay_of start (Called session (AddUri uris options position) now ∷ p)).downloads) (sym first)
    (added_fetched start (Unlisted uris) options position adds.0 adds.1)
called_fetched start before session (AddTorrent meta uris options position) now first adds =
    subst (λ (p : List Event).
    AreFetched start (replay_of start (Called session (AddTorrent meta uris options position) now ∷ p)).downloads)
    (sym first) (added_fetched start (Listed (box_value meta) uris) options position adds.0 adds.1)
called_fetched start before session other now first adds = absurd adds

downloads_fetched : (start : RunStart) (past : List Event) → OrderlyRun start past → AddFetched start past
    → AreFetched start (replay_of start past).downloads
downloads_fetched start [] is calls = inl refl
downloads_fetched start (Called session call now ∷ before) is calls =
    called_fetched start before session call now is.1.0 calls.1
downloads_fetched start (Ended other how ∷ before) is calls = downloads_fetched start before is.0 calls.0
downloads_fetched start (Stopped ∷ before) is calls = downloads_fetched start before is.0 calls.0
downloads_fetched start (Left ∷ before) is calls = downloads_fetched start before is.0 calls.0
downloads_fetched start (Opened other v b n ∷ before) is calls = downloads_fetched start before is.0 calls.0
downloads_fetched start (Sized other i t ∷ before) is calls = downloads_fetched start before is.0 calls.0
downloads_fetched start (Claimed other c ∷ before) is calls = downloads_fetched start before is.0 calls.0
downloads_fetched start (Landed other i m r n ∷ before) is calls = downloads_fetched start before is.0 calls.0
downloads_fetched start (Settled other p r g ∷ before) is calls = downloads_fetched start before is.0 calls.0
downloads_fetched start (Cleared other p ∷ before) is calls = downloads_fetched start before is.0 calls.0
downloads_fetched start (Lost other i m p k ∷ before) is calls = downloads_fetched start before is.0 calls.0
downloads_fetched start (Checked other r ∷ before) is calls = downloads_fetched start before is.0 calls.0
downloads_fetched start (Saved other n ∷ before) is calls = downloads_fetched start before is.0 calls.0

found_fetched : (start : RunStart) (d e : Download) (gid : Gid) (t : Bool) → IsFetched start d
    → cond t (Some d) None ≡ Some e → IsFetched start e
found_fetched start d e gid true is found = let same : d ≡ e = cc in subst (IsFetched start) same is
found_fetched start d e gid false is found = absurd cc

is_fetched : (start : RunStart) (downloads : List Download) (gid : Gid) (e : Download) → AreFetched start downloads
    → download_of downloads gid ≡ Some e → IsFetched start e
is_fetched start downloads gid e (inl none) found =
    absurd (let is : None ≡ Some e = sym (ap (λ ds. download_of ds gid) none) ∙ found in cc)
is_fetched start downloads gid e (inr one) found =
    found_fetched start one.0 e gid (is_same_gid gid one.0.gid) one.1
    (sym (ap (λ ds. download_of ds gid) one.2) ∙ found)

-- ---- its options stay

same_call : (start : RunStart) (before : List Event) (session : ℕ) (call : Call) (now : Moment) (d : Download)
    → Adds call → options_now start (Called session call now ∷ before) d ≡ options_now start before d
same_call start before session (AddUri uris options position) now d adds = refl
same_call start before session (AddTorrent meta uris options position) now d adds = refl
same_call start before session other now d adds = absurd adds

options_stay : (start : RunStart) (past : List Event) (d : Download) → OrderlyRun start past
    → options_now start past d ≡ d.options
options_stay start [] d is = refl
options_stay start (Called session call now ∷ before) d is =
    same_call start before session call now d is.1.1 ∙ options_stay start before d is.0
options_stay start (Ended other how ∷ before) d is = options_stay start before d is.0
options_stay start (Stopped ∷ before) d is = options_stay start before d is.0
options_stay start (Left ∷ before) d is = options_stay start before d is.0
options_stay start (Opened other v b n ∷ before) d is = options_stay start before d is.0
options_stay start (Sized other i t ∷ before) d is = options_stay start before d is.0
options_stay start (Claimed other c ∷ before) d is = options_stay start before d is.0
options_stay start (Landed other i m r n ∷ before) d is = options_stay start before d is.0
options_stay start (Settled other p r g ∷ before) d is = options_stay start before d is.0
options_stay start (Cleared other p ∷ before) d is = options_stay start before d is.0
options_stay start (Lost other i m p k ∷ before) d is = options_stay start before d is.0
options_stay start (Checked other r ∷ before) d is = options_stay start before d is.0
options_stay start (Saved other n ∷ before) d is = options_stay start before d is.0

-- ---- so does the limit of active downloads

unless_limit : (o : Option QueueErr) (changed same : QueueLists) → changed.limit ≡ same.limit
    → (unless_refused o changed same).limit ≡ same.limit
unless_limit None changed same is = is
unless_limit (Some err) changed same is = refl

stopped_limit : (o : Option Status) (gid : Gid) (how : Ending) (queue : QueueLists)
    → (stopped_from o gid how queue).limit ≡ queue.limit
stopped_limit None gid how queue = refl
stopped_limit (Some Active) gid how queue = refl
stopped_limit (Some other) gid how queue = refl

added_limit : (queue : QueueLists) (gid : Gid) (options : OptionValues) (paused : Bool) (position : Option ℕ)
    → (after queue (Add gid options paused position)).limit ≡ queue.limit
added_limit queue gid options paused position =
    unless_limit (refusal queue (Add gid options paused position)) _ queue refl

ended_limit : (queue : QueueLists) (gid : Gid) (how : Status) → (after queue (Stop gid how)).limit ≡ queue.limit
ended_limit queue gid how =
    unless_limit (refusal queue (Stop gid how)) _ queue (stopped_limit (status_of queue gid) gid _ queue)

stop_limit : (queue : QueueLists) (gid : Gid) (how : End) → (after queue (stop_of gid how)).limit ≡ queue.limit
stop_limit queue gid end.Complete = ended_limit queue gid Complete
stop_limit queue gid how = ended_limit queue gid Failed

either_limit : (t : Bool) (none some : Replay) (n : ℕ) → none.queue.limit ≡ n → some.queue.limit ≡ n
    → (cond t none some).queue.limit ≡ n
either_limit true none some n first second = first
either_limit false none some n first second = second

with_limit : (start : RunStart) (replay : Replay) (subject : Subject) (options : List Assigned) (position : Option ℕ)
    → (with_download start replay subject options position).queue.limit ≡ replay.queue.limit
with_limit start replay subject options position =
    let chosen = with_settings replay.global options in
    let gid = next_gid start replay.downloads chosen in
    let queue_call = Add gid chosen (not (number_value chosen num.Pause == 0)) position in
    either_limit (is_refused replay.queue queue_call) replay
    (record (with_call replay queue_call) {
      downloads = replay.downloads ++ record { gid = gid; subject = subject; options = chosen } ∷ [];
    }) replay.queue.limit refl
    (added_limit replay.queue gid chosen (not (number_value chosen num.Pause == 0)) position)

call_limit : (start : RunStart) (before : List Event) (session : ℕ) (call : Call) (now : Moment) → Adds call
    → (queue_in start (Called session call now ∷ before)).limit ≡ (queue_in start before).limit
call_limit start before session (AddUri uris options position) now adds =
    with_limit start (replay_of start before) (Unlisted uris) options position
call_limit start before session (AddTorrent meta uris options position) now adds =
    with_limit start (replay_of start before) (Listed (box_value meta) uris) options position
call_limit start before session other now adds = absurd adds

limit_stays : (start : RunStart) (past : List Event) → OrderlyRun start past
    → (queue_in start past).limit ≡ number_value start.global num.MaxConcurrentDownloads
limit_stays start [] is = refl
limit_stays start (Called session call now ∷ before) is =
    call_limit start before session call now is.1.1 ∙ limit_stays start before is.0
limit_stays start (Ended other how ∷ before) is =
    stop_limit (queue_in start before) other how ∙ limit_stays start before is.0
limit_stays start (Stopped ∷ before) is = limit_stays start before is.0
limit_stays start (Left ∷ before) is = limit_stays start before is.0
limit_stays start (Opened other v b n ∷ before) is = limit_stays start before is.0
limit_stays start (Sized other i t ∷ before) is = limit_stays start before is.0
limit_stays start (Claimed other c ∷ before) is = limit_stays start before is.0
limit_stays start (Landed other i m r n ∷ before) is = limit_stays start before is.0
limit_stays start (Settled other p r g ∷ before) is = limit_stays start before is.0
limit_stays start (Cleared other p ∷ before) is = limit_stays start before is.0
limit_stays start (Lost other i m p k ∷ before) is = limit_stays start before is.0
limit_stays start (Checked other r ∷ before) is = limit_stays start before is.0
limit_stays start (Saved other n ∷ before) is = limit_stays start before is.0

-- ---- the whole

pub workable : (start : RunStart) (past : List Event) → OrderlyRun start past → AddFetched start past
    → 1 ≤ number_value start.global num.MaxConcurrentDownloads → IsWorkable start past
workable start past is calls some = record {
  room = subst (λ (n : ℕ). 1 ≤ n) (sym (limit_stays start past is)) some;
  fetched = λ gid download added.
      let its = is_fetched start (replay_of start past).downloads gid download
      (downloads_fetched start past is calls) added in
      let now = options_stay start past download is in
      record {
        mirrors = its.mirrors;
        tries = its.room.tries;
        per_host = subst (λ (v : OptionValues). 1 ≤ number_value v num.MaxConnectionPerServer) (sym now)
            its.room.per_host;
        split = subst (λ (v : OptionValues). 1 ≤ number_value v num.Split) (sym now) its.room.split;
      };
}
