-- One step of a queue by a call (aria2 manual, "RPC interface": addUri, pause, unpause, pauseAll, unpauseAll, remove,
-- changePosition, removeDownloadResult, purgeDownloadResult). A history of calls is a list of these steps.
use Rattle.std.specs.Prelude.{◌≡◌, ◌==◌, ◌+◌, ◌-◌, ◌/◌, ◌^◌, ◌<◌, count_by, IsSome, IsTrue, ℕ, ℤ, pos, negsuc, min, Bool, true, false, List, [], ◌∷◌, ◌++◌, length, map, insert, remove, slice_set, nat_le, nat_lt, find, unwrap_or, Option, None, Some, Result, Ok, Err, if◌then◌else◌}
use Rattle.std.specs.List.{position_or_len}
use Rattle.std.specs.Option.{option_map}
use Rattle.dl_kinds.specs.declared.gid.Gid.{Gid}
use Rattle.dl_kinds.specs.declared.gid_key.GidKey.{GidKey}
use Rattle.dl_kinds.specs.declared.status.Status.{Status}
use Rattle.dl_kinds.specs.declared.status.Status.TheVariants.{Active, Waiting, Paused, Failed, Complete, Removed}
use Rattle.option_set.specs.Values.{OptionValues}
use Rattle.dl_queue.specs.declared.kinds.TheConstants.{MAX_DOWNLOADS}
use Rattle.dl_queue.specs.declared.kinds.How.{How}
use Rattle.dl_queue.specs.declared.kinds.How.TheVariants.{Set, Cur, End}
use Rattle.dl_queue.specs.declared.kinds.Ending.{Ending}
use Rattle.dl_queue.specs.Endings.{ending_by_status}
use Rattle.dl_queue.specs.declared.kinds.Queued.{Queued}
use Rattle.dl_queue.specs.declared.kinds.Added.{Added}
use Rattle.dl_queue.specs.declared.kinds.QueueErr.{QueueErr}
use Rattle.dl_queue.specs.declared.kinds.QueueErr.TheVariants.{NotFound, Ambiguous, WrongStatus, SameGid, Full}
use Rattle.dl_queue.specs.Lists.{QueueLists}
use Rattle.dl_queue.specs.Places.{active_place, queued_place, stopped_place, queued_at, status_of}
use Rattle.dl_queue.specs.Rising.{moved_up}

pub data QueueCall : Type 0 where
  Add : Gid → OptionValues → Bool → Option ℕ → QueueCall
  SetLimit : ℕ → QueueCall
  Pause : Gid → QueueCall
  Unpause : Gid → QueueCall
  PauseAll : QueueCall
  UnpauseAll : QueueCall
  Remove : Gid → QueueCall
  ChangePosition : Gid → ℤ → How → QueueCall
  Stop : Gid → Status → QueueCall
  Forget : Gid → QueueCall
  Purge : QueueCall

-- in which statuses a call is lawful
abbrev pub is_unpaused : Status → Bool
is_unpaused Active = true
is_unpaused Waiting = true
is_unpaused status = false

abbrev pub is_paused : Status → Bool
is_paused Paused = true
is_paused status = false

abbrev pub is_in_waiting : Status → Bool
is_in_waiting Waiting = true
is_in_waiting Paused = true
is_in_waiting status = false

abbrev pub has_stopped : Status → Bool
has_stopped Failed = true
has_stopped Complete = true
has_stopped Removed = true
has_stopped status = false

abbrev pub is_unfinished : Status → Bool
is_unfinished Active = true
is_unfinished Waiting = true
is_unfinished Paused = true
is_unfinished status = false

-- a download in none of the lists isn't found, and one in another status isn't changed
abbrev pub by_status : (Status → Bool) → Option Status → Option QueueErr
by_status lawful None = Some NotFound
by_status lawful (Some status) = if lawful status then None else Some (WrongStatus status)

abbrev pub added_place : Gid → List Added → ℕ
added_place gid added = position_or_len (λ download. download.gid.0 == gid.0) added

abbrev pub was_added : List Added → Gid → Bool
was_added added gid = nat_lt (added_place gid added) (length added)

-- where it stands in the order of adding, from 0
abbrev pub adding_place : List Added → Gid → Option ℕ
adding_place added gid = if was_added added gid then Some (added_place gid added) else None

-- the options of a download that was added
abbrev pub options_in : List Added → Gid → Option OptionValues
options_in added gid = option_map (λ download. download.options) (find (λ download. download.gid.0 == gid.0) added)

-- why a call changes nothing, or None where it is lawful
abbrev pub refusal : QueueLists → QueueCall → Option QueueErr
refusal queue (Add gid options paused position) =
    if was_added queue.added gid then Some SameGid
    else if nat_le MAX_DOWNLOADS (length queue.added) then Some (Full (length queue.added)) else None
refusal queue (SetLimit limit) = None
refusal queue (Pause gid) = by_status is_unpaused (status_of queue gid)
refusal queue (Unpause gid) = by_status is_paused (status_of queue gid)
refusal queue PauseAll = None
refusal queue UnpauseAll = None
refusal queue (Remove gid) = by_status is_unfinished (status_of queue gid)
refusal queue (ChangePosition gid position how) = by_status is_in_waiting (status_of queue gid)
refusal queue (Stop gid status) = by_status is_unfinished (status_of queue gid)
refusal queue (Forget gid) = by_status has_stopped (status_of queue gid)
refusal queue Purge = None

-- the waiting downloads with this one paused or not, in its place
abbrev pub with_pause : Bool → Gid → List Queued → List Queued
with_pause paused gid waiting =
    slice_set waiting (queued_place gid waiting) record { gid = gid; paused = paused }

abbrev pub as_paused : Bool → Queued → Queued
as_paused paused download = record download { paused = paused }

abbrev pub aside : Gid → Queued
aside gid = record { gid = gid; paused = true }

-- an active download goes to the front of the waiting ones, any other is paused in its place
abbrev pub paused_from : Option Status → Gid → QueueLists → QueueLists
paused_from (Some Active) gid queue = record queue {
  active = remove queue.active (active_place gid queue.active);
  waiting = aside gid ∷ queue.waiting;
}
paused_from status gid queue = record queue { waiting = with_pause true gid queue.waiting }

-- a download goes from its list to the end of the stopped ones
abbrev pub stopped_from : Option Status → Gid → Ending → QueueLists → QueueLists
stopped_from (Some Active) gid end queue = record queue {
  active = remove queue.active (active_place gid queue.active);
  stopped = queue.stopped ++ record { gid = gid; ending = end } ∷ [];
}
stopped_from status gid end queue = record queue {
  waiting = remove queue.waiting (queued_place gid queue.waiting);
  stopped = queue.stopped ++ record { gid = gid; ending = end } ∷ [];
}

-- so far from a base, and neither before the first place nor behind the last
abbrev pub clamped : ℕ → ℤ → ℕ → ℕ
clamped base (pos distance) last = min (base + distance) last
clamped base (negsuc distance) last = min (base - (distance + 1)) last

abbrev pub base_of : How → ℕ → ℕ → ℕ
base_of Set place last = 0
base_of Cur place last = place
base_of End place last = last

-- the place to which changePosition moves a download
abbrev pub target_of : List Queued → Gid → ℤ → How → ℕ
target_of waiting gid position how =
    let last = length waiting - 1 in
    clamped (base_of how (queued_place gid waiting) last) position last

abbrev pub with_place : List Queued → Gid → ℕ → List Queued
with_place waiting gid target =
    let place = queued_place gid waiting in
    insert (remove waiting place) target (queued_at gid waiting place)

-- what a lawful call does before waiting downloads move up
abbrev pub effect : QueueLists → QueueCall → QueueLists
effect queue (Add gid options paused position) = record queue {
  waiting = insert queue.waiting (min (unwrap_or position (length queue.waiting)) (length queue.waiting))
      record { gid = gid; paused = paused };
  added = queue.added ++ record { gid = gid; options = options } ∷ [];
}
effect queue (SetLimit limit) = record queue { limit = limit }
effect queue (Pause gid) = paused_from (status_of queue gid) gid queue
effect queue (Unpause gid) = record queue { waiting = with_pause false gid queue.waiting }
effect queue PauseAll = record queue {
  active = [];
  waiting = map aside queue.active ++ map (as_paused true) queue.waiting;
}
effect queue UnpauseAll = record queue { waiting = map (as_paused false) queue.waiting }
effect queue (Remove gid) = stopped_from (status_of queue gid) gid (ending_by_status Removed) queue
effect queue (ChangePosition gid position how) =
    record queue { waiting = with_place queue.waiting gid (target_of queue.waiting gid position how) }
effect queue (Stop gid status) = stopped_from (status_of queue gid) gid (ending_by_status status) queue
effect queue (Forget gid) = record queue { stopped = remove queue.stopped (stopped_place gid queue.stopped) }
effect queue Purge = record queue { stopped = [] }

abbrev pub unless_refused : Option QueueErr → QueueLists → QueueLists → QueueLists
unless_refused None changed same = changed
unless_refused (Some refused) changed same = same

-- the queue after a call: a lawful one ends by moving up waiting downloads, and a refused one changes nothing
abbrev pub after : QueueLists → QueueCall → QueueLists
after queue call = unless_refused (refusal queue call) (moved_up (effect queue call)) queue

-- .. and after a list of calls, the newest first
abbrev pub after_all : QueueLists → List QueueCall → QueueLists
after_all queue [] = queue
after_all queue (call ∷ earlier) = after (after_all queue earlier) call

-- how many downloads a key names, among all that stand in the lists
abbrev pub names_gid : GidKey → Gid → Bool
names_gid key gid = gid.0 / 16 ^ (16 - key.digits) == key.value

abbrev pub count_named : QueueLists → GidKey → ℕ
count_named queue key =
    count_by (names_gid key) queue.active + count_by (λ download. names_gid key download.gid) queue.waiting
    + count_by (λ download. names_gid key download.gid) queue.stopped

-- what looking up a key answers
abbrev pub Finds : QueueLists → GidKey → Result Gid QueueErr → Type 0
Finds queue key (Ok gid) = (count_named queue key ≡ 1) × IsSome (status_of queue gid) × IsTrue (names_gid key gid)
Finds queue key (Err NotFound) = count_named queue key ≡ 0
Finds queue key (Err (Ambiguous count)) = (count_named queue key ≡ count) × (1 < count)
Finds queue key (Err other) = ⊥

-- what a call answers
abbrev pub queue_answer : {T : Type 0} → Option QueueErr → T → Result T QueueErr
queue_answer None value = Ok value
queue_answer (Some refused) value = Err refused
