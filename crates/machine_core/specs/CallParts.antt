-- What a call makes of the parts of a machine.
use Rattle.std.specs.Prelude.{◌≡◌, ◌<◌, ◌≤◌, ◌&&◌, ◌||◌, ◌++◌, ◌+◌, ◌==◌, ℕ, Bool, true, false, not, Option, Some, None, List, [], ◌∷◌, length, map, slice_get}
use Rattle.dl_kinds.specs.declared.gid.Gid.{Gid}
use Rattle.dl_kinds.specs.declared.runs.Moment.{Moment}
use Rattle.dl_history.specs.Accounts.{new_account}
use Rattle.dl_queue.specs.Calls.{QueueCall, Add, adding_place, after, refusal}
use Rattle.dl_queue.specs.Lists.{QueueLists}
use Rattle.dl_queue.specs.declared.kinds.Added.{Added}
use Rattle.dl_queue.specs.declared.kinds.QueueErr.{QueueErr}
use Rattle.mirror_hosts.specs.Hosts.{host_numbers}
use Rattle.option_set.specs.Values.{OptionValues, number_value}
use Rattle.option_set.specs.declared.kinds.Num.TheVariants as num
use Rattle.option_set.specs.declared.setting.Assigned.{Assigned}
use Rattle.machine_core.specs.Answers.{applied_by, applied_in, call_answer}
use Rattle.machine_core.specs.Choices.{mirror_urls, options_now}
pub use Rattle.machine_core.specs.KeptQueues.{add_call}
use Rattle.machine_core.specs.MachineParts.{IsHalted, KeepsRun, MachineState, added_as, kept_room}
use Rattle.machine_core.specs.OwnParts.{is_shutdown}
use Rattle.machine_core.specs.Replays.{Replay, after_call, has_active, next_gid, with_settings}
use Rattle.machine_core.specs.RunLegal.{MayFollow, mirrors_by, tries_in}
use Rattle.machine_core.specs.Starts.{RunStart, Download, Subject}
use Rattle.machine_core.specs.declared.applied.Applied.{Applied}
use Rattle.machine_core.specs.declared.applied.Applied.TheVariants as answer
use Rattle.machine_core.specs.declared.calls.Call.{Call}
use Rattle.machine_core.specs.declared.calls.Call.TheVariants as call
use Rattle.machine_core.specs.declared.entries.Entry.{Entry}
use Rattle.machine_core.specs.declared.events.Event.{Event}
use Rattle.machine_core.specs.declared.events.Event.TheVariants.{Called}

-- ---- the active list

-- it is active before and not after
abbrev pub leaves_active : QueueLists → QueueLists → Gid → Bool
leaves_active old new gid = has_active old gid && not (has_active new gid)

-- the queue after a call of a download, if there is one
abbrev pub queue_keyed : QueueLists → (Gid → QueueCall) → Option Gid → QueueLists
queue_keyed queue queue_call None = queue
queue_keyed queue queue_call (Some gid) = after queue (queue_call gid)

-- ---- entries

-- each entry stands at the place of its download in the order of adding
pub record StandInOrder (added : List Added) (entries : List Entry) : Type 0 where
  pub many : length entries ≡ length added
  pub each : (i : ℕ) (x : Entry) → slice_get entries i ≡ Some x → adding_place added x.gid ≡ Some i

abbrev pub IsHaltedIf : Bool → Entry → Entry → Type 0
IsHaltedIf true was is = IsHalted was is
IsHaltedIf false was is = is ≡ was

-- of the first `n` downloads, the claims of those that pass a test end
pub record AreHaltedTo (n : ℕ) (test : Gid → Bool) (old new : List Entry) : Type 0 where
  pub many : length new ≡ length old
  pub each : (i : ℕ) (was is : Entry) → i < n → slice_get old i ≡ Some was → slice_get new i ≡ Some is
      → IsHaltedIf (test was.gid) was is
  pub others : (i : ℕ) → n ≤ i → slice_get new i ≡ slice_get old i

-- .. of all
abbrev pub AreHaltedWhere : (Gid → Bool) → List Entry → List Entry → Type 0
AreHaltedWhere test old new = AreHaltedTo (length old) test old new

abbrev pub set_if : Bool → List Assigned → Entry → Entry
set_if true settings x = record x { options = with_settings x.options settings }
set_if false settings x = x

-- the options of the downloads that pass a test are set
pub record AreSetWhere (test : Gid → Bool) (settings : List Assigned) (old new : List Entry) : Type 0 where
  pub many : length new ≡ length old
  pub each : (i : ℕ) (x : Entry) → slice_get old i ≡ Some x
      → slice_get new i ≡ Some (set_if (test x.gid) settings x)

-- what is kept of a download that the call at a place adds
pub record IsNewEntry (download : Download) (place : ℕ) (x : Entry) : Type 0 where
  pub gid : x.gid ≡ download.gid
  pub called : x.called ≡ place
  pub options : x.options ≡ download.options
  pub hosts : x.hosts.items ≡ host_numbers (mirror_urls download.subject)
  pub account : x.state.account ≡ new_account
  pub marks : x.state.marks ≡ []
  pub mirrors : x.state.mirrors ≡ mirrors_by download.subject
  pub max_tries : x.state.max_tries ≡ tries_in download

-- the mirrors of a download: seeds, then URIs
pub record HasMirrors (subject : Subject) (seeds uris : List (List ℕ)) : Type 0 where
  pub urls : mirror_urls subject ≡ seeds ++ uris
  pub many : mirrors_by subject ≡ length seeds + length uris

-- the entries after an adding, by whether the queue refuses it
abbrev pub IsEntryAdded : Option QueueErr → Download → ℕ → List Entry → List Entry → Type 0
IsEntryAdded None download place old new = (x : Entry) × (new ≡ old ++ x ∷ []) × IsNewEntry download place x
IsEntryAdded (Some refused) download place old new = new ≡ old

-- ---- a call

-- a download of this subject is added, or refused. `gids` is what gids are made from, `place` the place of the call
pub record IsAddition (gids place : ℕ) (global : OptionValues) (subject : Subject) (settings : List Assigned)
    (position : Option ℕ) (old new : QueueLists) (was is : List Entry) (applied : Applied) : Type 0 where
  pub gid : Gid
  pub made : (start : RunStart) (downloads : List Download) → start.gids ≡ gids → old.added ≡ map added_as downloads
      → gid ≡ next_gid start downloads (with_settings global settings)
  pub queue : new ≡ after old (add_call gid (with_settings global settings) position)
  pub answer : applied
      ≡ call_answer old (add_call gid (with_settings global settings) position) (answer.Added gid)
  pub entries : IsEntryAdded (refusal old (add_call gid (with_settings global settings) position))
      (record { gid = gid; subject = subject; options = with_settings global settings }) place was is

-- the parts that a call changes
pub record CallParts : Type 0 where
  pub queue : QueueLists
  pub global : OptionValues
  pub shut : Bool
  pub entries : List Entry

abbrev pub call_parts : QueueLists → OptionValues → Bool → List Entry → CallParts
call_parts queue global shut entries =
    record { queue = queue; global = global; shut = shut; entries = entries }

-- a replay comes to this queue and no other options or downloads
pub record ComesTo (queue : QueueLists) (shut : Bool) (old new : Replay) : Type 0 where
  pub queue_is : new.queue ≡ queue
  pub downloads_is : new.downloads ≡ old.downloads
  pub global_is : new.global ≡ old.global
  pub shut_is : new.shut ≡ shut

-- a call that neither adds a download nor sets options
abbrev pub is_plain : Call → Bool
is_plain (call.AddUri uris options position) = false
is_plain (call.AddTorrent meta uris options position) = false
is_plain (call.ChangeOption key options) = false
is_plain (call.ChangeGlobalOption options) = false
is_plain asked = true

-- what such a call makes of the queue, of whether the run is shut down, and of the entries, and its answer
pub record IsPlainCall (asked : Call) (old new : QueueLists) (was is : Bool) (xs ys : List Entry) (applied : Applied)
    : Type 0 where
  pub comes : (start : RunStart) (r : Replay) → r.queue ≡ old → r.shut ≡ was
      → ComesTo new is r (after_call start r asked)
  pub answer : (start : RunStart) (r : Replay) → r.queue ≡ old → applied ≡ applied_in start r asked
  pub added : new.added ≡ old.added
  pub options : (start : RunStart) (past : List Event) (session : ℕ) (now : Moment) (download : Download)
      → options_now start (Called session asked now ∷ past) download ≡ options_now start past download
  pub halts : AreHaltedWhere (λ gid. is_shutdown asked || leaves_active old new gid) xs ys

-- a machine with such parts
abbrev pub with_call_parts : MachineState → CallParts → MachineState
with_call_parts s p = record s { queue = p.queue; global = p.global; shut = p.shut; entries = p.entries }

-- the machine after a call
abbrev pub called_state : MachineState → Event → ℕ → CallParts → MachineState
called_state s event room p = record (with_call_parts s p) { events = s.events ++ event ∷ []; room = room }

-- the marks of each download have no less room
abbrev pub KeepMarkRooms : List Entry → List Entry → Type 0
KeepMarkRooms old new =
    (i : ℕ) (was : Entry) → slice_get old i ≡ Some was
    → (is : Entry) × (slice_get new i ≡ Some is) × (was.state.mark_spare ≤ is.state.mark_spare)

-- the parts of a run keep it with the call, and the answer is that of the run
pub record IsApplied (asked : Call) (gids place : ℕ) (old new : CallParts) (applied : Applied) : Type 0 where
  pub keeps : (past : List Event) (s : MachineState) (session : ℕ) (now : Moment) (room : ℕ)
      → s.start.gids ≡ gids → length s.events ≡ place → KeepsRun past (with_call_parts s old)
      → MayFollow s.start past (Called session asked now) → kept_room s.start.doors s.left s.stopped ≤ room
      → KeepsRun (Called session asked now ∷ past) (called_state s (Called session asked now) room new)
  pub answer : (past : List Event) (s : MachineState) → s.start.gids ≡ gids → KeepsRun past (with_call_parts s old)
      → applied ≡ applied_by s.start past asked
  pub rooms : KeepMarkRooms old.entries new.entries
