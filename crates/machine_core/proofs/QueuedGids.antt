-- The downloads in the lists of a run's queue were added.
use Rattle.std.proofs.Common.{◌≡◌, ℕ, zero, suc, Bool, true, false, cond, Option, Some, None, ◌-◌, List, [], ◌∷◌, ◌++◌, length, refl, ap, ◌∙◌, inr, arith}
use Rattle.std.specs.Prelude.{All, Contains, box_value, filter, find, insert, map, remove, slice_index_or}
use Rattle.std.specs.Option.{is_some}
use Rattle.std.proofs.lemmas.Bool.{eq-eqb}
use Rattle.std.proofs.lemmas.List.Elements.{All-append, All-cons, All-contains, All-head, All-map, All-nil, All-set, All-tail, All-weaker}
use Rattle.dl_kinds.specs.declared.gid.Gid.{Gid}
use Rattle.dl_kinds.specs.declared.gid_key.GidKey.{GidKey}
use Rattle.dl_kinds.specs.declared.status.Status.{Status}
use Rattle.dl_kinds.specs.declared.status.Status.TheVariants as status
use Rattle.dl_queue.specs.Calls.{QueueCall, Add, SetLimit, Pause, Unpause, PauseAll, UnpauseAll, Remove, ChangePosition, Stop, Forget, Purge, after, as_paused, aside, effect, names_gid, paused_from, refusal, stopped_from, unless_refused}
use Rattle.dl_queue.specs.Endings.{ending_by_status}
use Rattle.dl_queue.specs.Lists.{QueueLists}
use Rattle.dl_queue.specs.Places.{active_place, queued_place, status_of, stopped_place}
use Rattle.dl_queue.specs.Rising.{left_waiting, moved_up, risen}
use Rattle.dl_queue.specs.declared.kinds.Ending.{Ending}
use Rattle.dl_queue.specs.declared.kinds.QueueErr.{QueueErr}
use Rattle.dl_queue.specs.declared.kinds.Queued.{Queued}
use Rattle.dl_queue.specs.declared.kinds.Stopped.{Stopped}
use Rattle.option_set.specs.Values.{number_value}
use Rattle.option_set.specs.declared.kinds.Num.TheVariants as num
use Rattle.option_set.specs.declared.setting.Assigned.{Assigned}
use Rattle.machine_core.specs.CallParts.{add_call}
use Rattle.machine_core.specs.Replays.{Replay, after_call, download_of, is_download, is_refused, next_gid, with_call, with_download, with_settings, keyed_gid, only_one, queue_in, queued_gids, replay_of, with_call_of}
use Rattle.machine_core.specs.RunLegal.{IsLegal}
use Rattle.machine_core.specs.Starts.{RunStart, Download, Subject, Listed, Unlisted}
use Rattle.machine_core.specs.declared.calls.Call.{Call}
use Rattle.machine_core.specs.declared.calls.Call.TheVariants as call
use Rattle.machine_core.specs.declared.ends.End.{End}
use Rattle.machine_core.specs.declared.ends.End.TheVariants as end
use Rattle.machine_core.specs.declared.events.Event.{Event}
use Rattle.machine_core.specs.declared.events.Event.TheVariants.{Called, Ended}
use Rattle.machine_core.proofs.Lists.{contains_filter}
use Rattle.machine_core.proofs.Parts.{Adds, stays_added}

-- each download in the lists is one of these
pub record AreQueued (P : Gid → Type 0) (queue : QueueLists) : Type 0 where
  pub active : All P queue.active
  pub waiting : All (λ (q : Queued). P q.gid) queue.waiting
  pub stopped : All (λ (s : Stopped). P s.gid) queue.stopped

-- ---- lists

removed : {A : Type 0} (P : A → Type 0) (xs : List A) (i : ℕ) → All P xs → All P (remove xs i)
removed P [] zero all = All-nil P
removed P [] (suc i) all = All-nil P
removed P (x ∷ xs) zero all = All-tail P x xs all
removed P (x ∷ xs) (suc i) all =
    All-cons P x (remove xs i) (All-head P x xs all) (removed P xs i (All-tail P x xs all))

inserted : {A : Type 0} (P : A → Type 0) (xs : List A) (i : ℕ) (y : A) → All P xs → P y → All P (insert xs i y)
inserted P xs zero y all is = All-cons P y xs is all
inserted P [] (suc i) y all is = All-cons P y [] is all
inserted P (x ∷ xs) (suc i) y all is =
    All-cons P x (insert xs i y) (All-head P x xs all) (inserted P xs i y (All-tail P x xs all) is)

read_is : {A : Type 0} (P : A → Type 0) (xs : List A) (i : ℕ) (d : A) → All P xs → P d → P (slice_index_or xs i d)
read_is P [] i d all is = is
read_is P (x ∷ xs) zero d all is = All-head P x xs all
read_is P (x ∷ xs) (suc i) d all is = read_is P xs i d (All-tail P x xs all) is

risen_where : (t : Bool) (P : Gid → Type 0) (n : ℕ) (q : Queued) (waiting : List Queued) → P q.gid
    → All P (risen (suc n) waiting) → All P (risen n waiting)
    → All P (cond t (risen (suc n) waiting) (q.gid ∷ risen n waiting))
risen_where true P n q waiting is all rest = all
risen_where false P n q waiting is all rest = All-cons P q.gid (risen n waiting) is rest

left_where : (t : Bool) (P : Gid → Type 0) (n : ℕ) (q : Queued) (waiting : List Queued) → P q.gid
    → All (λ (x : Queued). P x.gid) (left_waiting (suc n) waiting)
    → All (λ (x : Queued). P x.gid) (left_waiting n waiting)
    → All (λ (x : Queued). P x.gid) (cond t (q ∷ left_waiting (suc n) waiting) (left_waiting n waiting))
left_where true P n q waiting is all rest =
    All-cons (λ (x : Queued). P x.gid) q (left_waiting (suc n) waiting) is all
left_where false P n q waiting is all rest = rest

risen_are : (P : Gid → Type 0) (n : ℕ) (waiting : List Queued) → All (λ (q : Queued). P q.gid) waiting
    → All P (risen n waiting)
risen_are P zero waiting all = All-nil P
risen_are P (suc n) [] all = All-nil P
risen_are P (suc n) (q ∷ waiting) all =
    risen_where q.paused P n q waiting (All-head (λ (x : Queued). P x.gid) q waiting all)
    (risen_are P (suc n) waiting (All-tail (λ (x : Queued). P x.gid) q waiting all))
    (risen_are P n waiting (All-tail (λ (x : Queued). P x.gid) q waiting all))

left_are : (P : Gid → Type 0) (n : ℕ) (waiting : List Queued) → All (λ (q : Queued). P q.gid) waiting
    → All (λ (q : Queued). P q.gid) (left_waiting n waiting)
left_are P zero waiting all = all
left_are P (suc n) [] all = all
left_are P (suc n) (q ∷ waiting) all =
    left_where q.paused P n q waiting (All-head (λ (x : Queued). P x.gid) q waiting all)
    (left_are P (suc n) waiting (All-tail (λ (x : Queued). P x.gid) q waiting all))
    (left_are P n waiting (All-tail (λ (x : Queued). P x.gid) q waiting all))

up : (P : Gid → Type 0) (queue : QueueLists) → AreQueued P queue → AreQueued P (moved_up queue)
up P queue k =
    let free = queue.limit - length queue.active in
    record {
      active = All-append P queue.active (risen free queue.waiting) k.active (risen_are P free queue.waiting k.waiting);
      waiting = left_are P free queue.waiting k.waiting;
      stopped = k.stopped;
    }

-- ---- what a call does

-- the download of the call is one of these
abbrev IsCallOf : (Gid → Type 0) → QueueCall → Type 0
IsCallOf P (Add gid options paused position) = P gid
IsCallOf P (SetLimit limit) = Unit {0}
IsCallOf P (Pause gid) = P gid
IsCallOf P (Unpause gid) = P gid
IsCallOf P PauseAll = Unit {0}
IsCallOf P UnpauseAll = Unit {0}
IsCallOf P (Remove gid) = P gid
IsCallOf P (ChangePosition gid position how) = P gid
IsCallOf P (Stop gid status) = P gid
IsCallOf P (Forget gid) = P gid
IsCallOf P Purge = Unit {0}

paused_are : (P : Gid → Type 0) (st : Option Status) (gid : Gid) (queue : QueueLists) → AreQueued P queue → P gid
    → AreQueued P (paused_from st gid queue)
paused_are P (Some status.Active) gid queue k is =
    record {
      active = removed P queue.active (active_place gid queue.active) k.active;
      waiting = All-cons (λ (q : Queued). P q.gid) (aside gid) queue.waiting is k.waiting;
      stopped = k.stopped;
    }
paused_are P st gid queue k is =
    record {
      active = k.active;
      waiting = All-set (λ (q : Queued). P q.gid) queue.waiting (queued_place gid queue.waiting)
          (record { gid = gid; paused = true }) is k.waiting;
      stopped = k.stopped;
    }

pushed : (P : Gid → Type 0) (stopped : List Stopped) (gid : Gid) (how : Ending) → All (λ (s : Stopped). P s.gid) stopped
    → P gid → All (λ (s : Stopped). P s.gid) (stopped ++ record { gid = gid; ending = how } ∷ [])
pushed P stopped gid how all is =
    All-append (λ (s : Stopped). P s.gid) stopped (record { gid = gid; ending = how } ∷ []) all
    (All-cons (λ (s : Stopped). P s.gid) (record { gid = gid; ending = how }) [] is (All-nil (λ (s : Stopped). P s.gid)))

stopped_are : (P : Gid → Type 0) (st : Option Status) (gid : Gid) (how : Ending) (queue : QueueLists)
    → AreQueued P queue → P gid → AreQueued P (stopped_from st gid how queue)
stopped_are P (Some status.Active) gid how queue k is =
    record {
      active = removed P queue.active (active_place gid queue.active) k.active;
      waiting = k.waiting;
      stopped = pushed P queue.stopped gid how k.stopped is;
    }
stopped_are P st gid how queue k is =
    record {
      active = k.active;
      waiting = removed (λ (q : Queued). P q.gid) queue.waiting (queued_place gid queue.waiting) k.waiting;
      stopped = pushed P queue.stopped gid how k.stopped is;
    }

paused_all : (P : Gid → Type 0) (paused : Bool) (waiting : List Queued) → All (λ (q : Queued). P q.gid) waiting
    → All (λ (q : Queued). P q.gid) (map (as_paused paused) waiting)
paused_all P paused waiting all = All-map (λ (q : Queued). P q.gid) (as_paused paused) waiting all

effect_is : (P : Gid → Type 0) (queue : QueueLists) (queue_call : QueueCall) → AreQueued P queue
    → IsCallOf P queue_call → AreQueued P (effect queue queue_call)
effect_is P queue (Add gid options paused position) k is =
    record {
      active = k.active;
      waiting = inserted (λ (q : Queued). P q.gid) queue.waiting _ (record { gid = gid; paused = paused }) k.waiting is;
      stopped = k.stopped;
    }
effect_is P queue (SetLimit limit) k is = record { active = k.active; waiting = k.waiting; stopped = k.stopped }
effect_is P queue (Pause gid) k is = paused_are P (status_of queue gid) gid queue k is
effect_is P queue (Unpause gid) k is =
    record {
      active = k.active;
      waiting = All-set (λ (q : Queued). P q.gid) queue.waiting (queued_place gid queue.waiting)
          (record { gid = gid; paused = false }) is k.waiting;
      stopped = k.stopped;
    }
effect_is P queue PauseAll k is =
    record {
      active = All-nil P;
      waiting = All-append (λ (q : Queued). P q.gid) (map aside queue.active) (map (as_paused true) queue.waiting)
          (All-map (λ (q : Queued). P q.gid) aside queue.active k.active) (paused_all P true queue.waiting k.waiting);
      stopped = k.stopped;
    }
effect_is P queue UnpauseAll k is =
    record { active = k.active; waiting = paused_all P false queue.waiting k.waiting; stopped = k.stopped }
effect_is P queue (Remove gid) k is =
    stopped_are P (status_of queue gid) gid (ending_by_status status.Removed) queue k is
effect_is P queue (ChangePosition gid position how) k is =
    record {
      active = k.active;
      waiting = inserted (λ (q : Queued). P q.gid) _ _ _
          (removed (λ (q : Queued). P q.gid) queue.waiting (queued_place gid queue.waiting) k.waiting)
          (read_is (λ (q : Queued). P q.gid) queue.waiting (queued_place gid queue.waiting) _ k.waiting is);
      stopped = k.stopped;
    }
effect_is P queue (Stop gid st) k is = stopped_are P (status_of queue gid) gid (ending_by_status st) queue k is
effect_is P queue (Forget gid) k is =
    record {
      active = k.active;
      waiting = k.waiting;
      stopped = removed (λ (s : Stopped). P s.gid) queue.stopped (stopped_place gid queue.stopped) k.stopped;
    }
effect_is P queue Purge k is =
    record { active = k.active; waiting = k.waiting; stopped = All-nil (λ (s : Stopped). P s.gid) }

unless_is : (P : Gid → Type 0) (o : Option QueueErr) (old changed : QueueLists) → AreQueued P old
    → AreQueued P changed → AreQueued P (unless_refused o changed old)
unless_is P None old changed k c = c
unless_is P (Some e) old changed k c = k

after_is : (P : Gid → Type 0) (queue : QueueLists) (queue_call : QueueCall) → AreQueued P queue
    → IsCallOf P queue_call → AreQueued P (after queue queue_call)
after_is P queue queue_call k is =
    unless_is P (refusal queue queue_call) queue (moved_up (effect queue queue_call)) k
    (up P (effect queue queue_call) (effect_is P queue queue_call k is))

-- ---- a run

abbrev pub IsAdded : List Download → Gid → Type 0
IsAdded downloads gid = is_some (download_of downloads gid) ≡ true

more_added : (old new : List Download) (queue : QueueLists) → Adds old new → AreQueued (IsAdded old) queue
    → AreQueued (IsAdded new) queue
more_added old new queue adds k =
    let on : (gid : Gid) → IsAdded old gid → IsAdded new gid =
    λ gid is. ap is_some (stays_added gid old new adds is) ∙ is in
    record {
      active = All-weaker (IsAdded old) (IsAdded new) on queue.active k.active;
      waiting = All-weaker (λ (q : Queued). IsAdded old q.gid) (λ (q : Queued). IsAdded new q.gid) (λ q. on q.gid)
          queue.waiting k.waiting;
      stopped = All-weaker (λ (s : Stopped). IsAdded old s.gid) (λ (s : Stopped). IsAdded new s.gid) (λ s. on s.gid)
          queue.stopped k.stopped;
    }

-- a download that a key names is one of these
one_of : (xs : List Gid) (gid : Gid) → only_one xs ≡ Some gid → Contains xs gid
one_of [] gid is = absurd cc
one_of (x ∷ []) gid is = let same : x ≡ gid = cc in (0, omega arith, same)
one_of (x ∷ y ∷ xs) gid is = absurd cc

pub named_is : (P : Gid → Type 0) (queue : QueueLists) (key : GidKey) (gid : Gid) → AreQueued P queue
    → keyed_gid queue key ≡ Some gid → P gid
named_is P queue key gid k is =
    All-contains P (queued_gids queue) gid
    (All-append P (queue.active ++ map (λ (q : Queued). q.gid) queue.waiting) (map (λ (s : Stopped). s.gid) queue.stopped)
    (All-append P queue.active (map (λ (q : Queued). q.gid) queue.waiting) k.active
    (All-map P (λ (q : Queued). q.gid) queue.waiting k.waiting))
    (All-map P (λ (s : Stopped). s.gid) queue.stopped k.stopped))
    (contains_filter (names_gid key) (queued_gids queue) gid (one_of (filter (names_gid key) (queued_gids queue)) gid is))

keyed_is : (P : Gid → Type 0) (r : Replay) (queue_call : Gid → QueueCall) (o : Option Gid) → AreQueued P r.queue
    → ((gid : Gid) → o ≡ Some gid → IsCallOf P (queue_call gid))
    → AreQueued P (with_call_of r queue_call o).queue
keyed_is P r queue_call None k is = k
keyed_is P r queue_call (Some gid) k is = after_is P r.queue (queue_call gid) k (is gid refl)

adding_is : (r more : Replay) (gid : Gid) (t : Bool) → AreQueued (IsAdded r.downloads) r.queue
    → (AreQueued (IsAdded more.downloads) more.queue)
    → AreQueued (IsAdded (cond t r more).downloads) (cond t r more).queue
adding_is r more gid true k new = k
adding_is r more gid false k new = new

last_where : (p : Download → Bool) (x : Download) (ds : List Download) (d : Download) (t : Bool)
    → is_some (find p (ds ++ d ∷ [])) ≡ true → is_some (cond t (Some x) (find p (ds ++ d ∷ []))) ≡ true
last_where p x ds d true is = refl
last_where p x ds d false is = is

last_added : (p : Download → Bool) (ds : List Download) (d : Download) → p d ≡ true → is_some (find p (ds ++ d ∷ [])) ≡ true
last_added p [] d is = rw is refl
last_added p (x ∷ ds) d is = last_where p x ds d (p x) (last_added p ds d is)

same_downloads : (r : Replay) (queue_call : Gid → QueueCall) (o : Option Gid)
    → AreQueued (IsAdded r.downloads) (with_call_of r queue_call o).queue
    → AreQueued (IsAdded (with_call_of r queue_call o).downloads) (with_call_of r queue_call o).queue
same_downloads r queue_call None k = k
same_downloads r queue_call (Some gid) k = k

added_is : (start : RunStart) (r : Replay) (subject : Subject) (settings : List Assigned) (position : Option ℕ)
    → AreQueued (IsAdded r.downloads) r.queue
    → AreQueued (IsAdded (with_download start r subject settings position).downloads)
    (with_download start r subject settings position).queue
added_is start r subject settings position k =
    let options = with_settings r.global settings in
    let gid = next_gid start r.downloads options in
    let d : Download = record { gid = gid; subject = subject; options = options } in
    let downloads = r.downloads ++ d ∷ [] in
    adding_is r (record (with_call r (add_call gid options position)) { downloads = downloads }) gid
    (is_refused r.queue (add_call gid options position)) k
    (after_is (IsAdded downloads) r.queue (add_call gid options position)
    (more_added r.downloads downloads r.queue (inr (d, refl)) k)
    (last_added (is_download gid) r.downloads d (eq-eqb gid.0 gid.0 refl)))

ended_is : (start : RunStart) (past : List Event) (gid : Gid) (how : End)
    → IsAdded (replay_of start past).downloads gid
    → AreQueued (IsAdded (replay_of start past).downloads) (queue_in start past)
    → AreQueued (IsAdded (replay_of start past).downloads) (queue_in start (Ended gid how ∷ past))
ended_is start past gid end.Complete is k =
    after_is (IsAdded (replay_of start past).downloads) (queue_in start past) (Stop gid status.Complete) k is
ended_is start past gid how is k =
    after_is (IsAdded (replay_of start past).downloads) (queue_in start past) (Stop gid status.Failed) k is

called_is : (start : RunStart) (r : Replay) (asked : Call) → AreQueued (IsAdded r.downloads) r.queue
    → AreQueued (IsAdded (after_call start r asked).downloads) (after_call start r asked).queue
called_is start r (call.AddUri uris options position) k = added_is start r (Unlisted uris) options position k
called_is start r (call.AddTorrent meta uris options position) k =
    added_is start r (Listed (box_value meta) uris) options position k
called_is start r (call.Remove key) k =
    same_downloads r Remove (keyed_gid r.queue key)
    (keyed_is (IsAdded r.downloads) r Remove (keyed_gid r.queue key) k (λ gid is. named_is (IsAdded r.downloads) r.queue key gid k is))
called_is start r (call.Pause key) k =
    same_downloads r Pause (keyed_gid r.queue key)
    (keyed_is (IsAdded r.downloads) r Pause (keyed_gid r.queue key) k (λ gid is. named_is (IsAdded r.downloads) r.queue key gid k is))
called_is start r (call.Unpause key) k =
    same_downloads r Unpause (keyed_gid r.queue key)
    (keyed_is (IsAdded r.downloads) r Unpause (keyed_gid r.queue key) k (λ gid is. named_is (IsAdded r.downloads) r.queue key gid k is))
called_is start r (call.RemoveResult key) k =
    same_downloads r Forget (keyed_gid r.queue key)
    (keyed_is (IsAdded r.downloads) r Forget (keyed_gid r.queue key) k (λ gid is. named_is (IsAdded r.downloads) r.queue key gid k is))
called_is start r (call.ChangePosition key position how) k =
    same_downloads r (λ gid. ChangePosition gid position how) (keyed_gid r.queue key)
    (keyed_is (IsAdded r.downloads) r (λ gid. ChangePosition gid position how) (keyed_gid r.queue key) k
    (λ gid is. named_is (IsAdded r.downloads) r.queue key gid k is))
called_is start r call.PauseAll k = after_is (IsAdded r.downloads) r.queue PauseAll k tt
called_is start r call.UnpauseAll k = after_is (IsAdded r.downloads) r.queue UnpauseAll k tt
called_is start r (call.ChangeGlobalOption options) k =
    after_is (IsAdded r.downloads) r.queue
    (SetLimit (number_value (with_settings r.global options) num.MaxConcurrentDownloads)) k tt
called_is start r call.Purge k = after_is (IsAdded r.downloads) r.queue Purge k tt
called_is start r other k = k

pub queued_are_added : (start : RunStart) (past : List Event) → IsLegal start past
    → AreQueued (IsAdded (replay_of start past).downloads) (queue_in start past)
queued_are_added start [] legal =
    record {
      active = All-nil (IsAdded []);
      waiting = All-nil (λ (q : Queued). IsAdded [] q.gid);
      stopped = All-nil (λ (s : Stopped). IsAdded [] s.gid);
    }
queued_are_added start (Called session asked now ∷ past) legal =
    called_is start (replay_of start past) asked (queued_are_added start past legal.0)
queued_are_added start (Ended gid how ∷ past) legal =
    ended_is start past gid how (ap is_some legal.1.own.added) (queued_are_added start past legal.0)
queued_are_added start (e ∷ past) legal = queued_are_added start past legal.0
