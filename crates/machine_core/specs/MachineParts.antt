-- How what a machine keeps stands to its history.
use Rattle.std.specs.Prelude.{◌≡◌, ℕ, ◌+◌, ◌-◌, ◌<◌, ◌≤◌, Bool, true, false, if◌then◌else◌, Option, Some, None, List, All, Contains, box_value, count_by, length, map, slice_get}
use Rattle.std.specs.List.{list_any}
use Rattle.std.specs.Option.{is_some, option_and_then}
use Rattle.dl_kinds.specs.declared.claims.Claim.{Claim}
use Rattle.dl_kinds.specs.declared.gid.Gid.{Gid}
use Rattle.dl_queue.specs.Lists.{QueueLists}
use Rattle.dl_queue.specs.declared.kinds.Added.{Added}
use Rattle.mirror_blame.specs.Marks.{counted}
use Rattle.mirror_hosts.specs.Hosts.{host_numbers}
use Rattle.one_download.specs.DownloadViews.{DownloadView, StaysUnmarked}
use Rattle.option_set.specs.Values.{OptionValues}
use Rattle.dl_history.specs.Accounts.{account_of, after_halt}
use Rattle.dl_history.specs.OwnEvents.{OwnEvent}
use Rattle.dl_history.specs.PayloadParts.{is_opened, blames_in}
use Rattle.dl_history.specs.StandingClaims.{granted_claims}
use Rattle.machine_core.specs.Choices.{mirror_urls, options_now}
use Rattle.machine_core.specs.OwnParts.{PayloadLengths, own_of}
use Rattle.machine_core.specs.Replays.{Replay, replay_of}
use Rattle.machine_core.specs.RunLegal.{IsLegal, download_in, is_left, is_stop, known_lengths, mirrors_by, next_number, tries_in}
use Rattle.machine_core.specs.Starts.{RunStart, Download, Subject, Listed, Unlisted}
use Rattle.machine_core.specs.Wanted.{wanted_pieces}
pub use Rattle.machine_core.specs.KeptQueues.{KeepsQueue, added_as}
use Rattle.machine_core.specs.NoticeLogs.{KeepsLogged}
use Rattle.machine_core.specs.declared.calls.Call.{Call}
use Rattle.machine_core.specs.declared.calls.Call.TheVariants.{AddUri, AddTorrent}
use Rattle.machine_core.specs.declared.entries.Entry.{Entry}
use Rattle.machine_core.specs.declared.events.Event.{Event}
use Rattle.machine_core.specs.declared.events.Event.TheVariants.{Called}
use Rattle.machine_core.specs.declared.notice_log.NoticeLog.{NoticeLog}

-- ---- one download

-- what the call was of that added a download
abbrev pub subject_of_call : Call → Option Subject
subject_of_call (AddUri uris options position) = Some (Unlisted uris)
subject_of_call (AddTorrent meta uris options position) = Some (Listed (box_value meta) uris)
subject_of_call other = None

abbrev pub subject_of_event : Event → Option Subject
subject_of_event (Called session asked now) = subject_of_call asked
subject_of_event e = None

-- what is kept of a download is what its own events leave
pub record KeepsDownload (own : List OwnEvent) (lengths : PayloadLengths) (options : OptionValues) (download : Download)
    (entry : Entry) : Type 0 where
  pub gid : entry.gid ≡ download.gid
  pub options_are : entry.options ≡ options
  pub account : entry.state.account ≡ account_of lengths.total lengths.piece_len own
  pub marks : entry.state.marks ≡ counted (tries_in download) (blames_in own)
  pub mirrors : entry.state.mirrors ≡ mirrors_by download.subject
  pub max_tries : entry.state.max_tries ≡ tries_in download
  pub hosts : entry.hosts.items ≡ host_numbers (mirror_urls download.subject)
  pub wanted : is_opened own ≡ true → entry.state.wanted ≡ wanted_pieces download lengths
  pub known : All (λ claim. claim.mirror < mirrors_by download.subject) (granted_claims own)

-- ---- all downloads

-- the downloads are kept in the order of their adding
pub record KeepsDownloads (start : RunStart) (past : List Event) (entries : List Entry) : Type 0 where
  pub many : length entries ≡ length (replay_of start past).downloads
  pub each : (i : ℕ) (download : Download) (entry : Entry)
      → slice_get (replay_of start past).downloads i ≡ Some download → slice_get entries i ≡ Some entry
      → KeepsDownload (own_of start past download.gid) (known_lengths start past download.gid)
      (options_now start past download) download entry

-- no two have one gid
abbrev pub HaveOwnGids : List Download → Type 0
HaveOwnGids downloads =
    (i j : ℕ) (one other : Download) → slice_get downloads i ≡ Some one → slice_get downloads j ≡ Some other
    → one.gid ≡ other.gid → i ≡ j

-- each was added by the call at its place in the journal
abbrev pub AreAddedAt : List Event → List Download → List Entry → Type 0
AreAddedAt events downloads entries =
    (i : ℕ) (download : Download) (entry : Entry) → slice_get downloads i ≡ Some download
    → slice_get entries i ≡ Some entry
    → option_and_then subject_of_event (slice_get events entry.called) ≡ Some download.subject

-- ---- claims

-- the gid of each claim's download stands at the claim's number, and is of a download
pub record KeepsHomes (start : RunStart) (past : List Event) (homes : List Gid) : Type 0 where
  pub many : length homes ≡ next_number past
  pub own : (gid : Gid) (claim : Claim) → Contains (granted_claims (own_of start past gid)) claim
      → slice_get homes claim.id ≡ Some gid
  pub added : (id : ℕ) (gid : Gid) → slice_get homes id ≡ Some gid → is_some (download_in start past gid) ≡ true

-- ---- doors and the stop

-- so many doors closed, and whether the run stopped
pub record KeepsEnds (past : List Event) (left : ℕ) (stopped : Bool) : Type 0 where
  pub left_is : left ≡ count_by is_left past
  pub stopped_is : stopped ≡ list_any is_stop past

-- room for the events that come whatever else does: each door closes, and the run stops
abbrev pub kept_room : ℕ → ℕ → Bool → ℕ
kept_room doors left stopped = doors - left + (if stopped then 0 else 1)

-- ---- the whole

pub record MachineState : Type 0 where
  pub start : RunStart
  pub events : List Event  -- in the order in which they came
  pub queue : QueueLists
  pub global : OptionValues
  pub shut : Bool
  pub stopped : Bool
  pub left : ℕ
  pub entries : List Entry
  pub homes : List Gid
  pub room : ℕ  -- for how many more events
  pub log : NoticeLog

pub record KeepsRun (past : List Event) (s : MachineState) : Type 0 where
  pub legal : IsLegal s.start past
  pub queue : KeepsQueue (replay_of s.start past) s.queue s.global s.shut
  pub downloads : KeepsDownloads s.start past s.entries
  pub apart : HaveOwnGids (replay_of s.start past).downloads
  pub called : AreAddedAt s.events (replay_of s.start past).downloads s.entries
  pub homes : KeepsHomes s.start past s.homes
  pub ends : KeepsEnds past s.left s.stopped
  pub room_is : kept_room s.start.doors s.left s.stopped ≤ s.room
  pub log_is : KeepsLogged s.start s.events s.log

-- ---- a halt of downloads

-- the claims of a download end
pub record IsHalted (old new : Entry) : Type 0 where
  pub state : DownloadView
  pub is : new ≡ record old { state = state }
  pub account : state.account ≡ after_halt old.state.account false
  pub rest : StaysUnmarked old.state state

-- the claims of the first `n` downloads end
pub record AreHaltedUpTo (n : ℕ) (old new : List Entry) : Type 0 where
  pub many : length new ≡ length old
  pub each : (i : ℕ) (was is : Entry) → i < n → slice_get old i ≡ Some was → slice_get new i ≡ Some is → IsHalted was is
  pub others : (i : ℕ) → n ≤ i → slice_get new i ≡ slice_get old i

-- .. of all
abbrev pub AreHalted : List Entry → List Entry → Type 0
AreHalted old new = AreHaltedUpTo (length old) old new
