-- The log of notices, event by event.
use Rattle.std.proofs.Common.{◌≡◌, ◌⊎◌, ℕ, zero, suc, Bool, true, false, cond, Option, Some, None, ◌+◌, ◌<◌, ◌≤◌, List, [], ◌∷◌, ◌++◌, drop, length, map, reverse, take, slice_get, refl, sym, ap, ◌∙◌, subst, inl, inr, ⊎_elim, arith}
use Rattle.std.specs.Prelude.{◌==◌, filter_map, not}
use Rattle.std.specs.List.{cons_option}
use Rattle.std.specs.Option.{is_some}
use Rattle.std.proofs.lemmas.List.{append-nil, length-append, length-reverse, length-take-le, map-append, reverse-append}
use Rattle.std.proofs.lemmas.Option.{same_Some, slice_get_within}
use Rattle.dl_kinds.specs.declared.gid.Gid.{Gid}
use Rattle.dl_kinds.specs.declared.status.Status.{Status}
use Rattle.dl_kinds.specs.declared.status.Status.TheVariants as status
use Rattle.dl_queue.specs.Calls.{Add, ChangePosition, Forget, Pause, QueueCall, Remove, Unpause, was_added}
use Rattle.dl_queue.specs.Lists.{QueueLists}
use Rattle.dl_queue.specs.Places.{status_of}
use Rattle.dl_queue.specs.declared.kinds.Added.{Added}
use Rattle.dl_queue.specs.declared.kinds.QueueErr.{QueueErr}
use Rattle.option_set.specs.Values.{number_value}
use Rattle.option_set.specs.declared.kinds.Num.TheVariants as num
use Rattle.option_set.specs.declared.setting.Assigned.{Assigned}
use Rattle.machine_core.specs.MachineParts.{added_as}
use Rattle.machine_core.specs.NoticeLogs.{AreCounted, change_of, changes, counts_as_added, FollowsEvent, is_quiet, IsNoted, KeepsLog, statuses_in, TakesIn}
use Rattle.machine_core.specs.Notices.{counts_as, kind_of_change, notices_at, notices_in, placed, status_before}
use Rattle.machine_core.specs.Replays.{after_call, download_of, is_refused, keyed_gid, next_gid, queue_in, Replay, replay_of, with_call_of, with_download, with_settings}
use Rattle.machine_core.specs.Starts.{Download, RunStart, Subject}
use Rattle.machine_core.specs.declared.calls.Call.{Call}
use Rattle.machine_core.specs.declared.calls.Call.TheVariants as call
use Rattle.machine_core.specs.declared.events.Event.{Event}
use Rattle.machine_core.specs.declared.events.Event.TheVariants.{Called, Opened, Sized, Claimed, Landed, Settled, Cleared, Lost, Checked, Saved, Ended, Left, Stopped}
use Rattle.machine_core.specs.declared.notice_log.NoticeLog.{NoticeLog}
use Rattle.machine_core.specs.declared.notices.Notice.{Notice}
use Rattle.machine_core.specs.declared.notices.PlacedNotice.{PlacedNotice}
use Rattle.machine_core.proofs.AddingCalls.{no_place}
use Rattle.machine_core.proofs.FollowedCalls.{quiet_same}
use Rattle.machine_core.proofs.Homes.{length_added, place_none}
use Rattle.machine_core.proofs.NewDownloads.{at_end, map-more, there_is}

-- ---- notices by statuses

by_statuses : (before : Download → Option Status) (queue : QueueLists) (ds : List Download)
    → filter_map (λ (d : Download). change_of (before d) (status_of queue d.gid) d.gid) ds
    ≡ changes (map before ds) queue (map added_as ds)
by_statuses before queue [] = refl
by_statuses before queue (d ∷ ds) =
    ap (λ (ns : List Notice). cons_option (change_of (before d) (status_of queue d.gid) d.gid) ns)
    (by_statuses before queue ds)

pub notices_are : (start : RunStart) (past : List Event) (e : Event)
    → notices_at start past e
    ≡ changes (map (status_before start past) (replay_of start (e ∷ past)).downloads) (queue_in start (e ∷ past))
    (map added_as (replay_of start (e ∷ past)).downloads)
notices_are start past e =
    by_statuses (status_before start past) (queue_in start (e ∷ past)) (replay_of start (e ∷ past)).downloads

if_on : {A : Type 0} (t : Bool) (a b : A) → t ≡ true → cond t a b ≡ a
if_on true a b on = refl
if_on false a b on = absurd cc

-- of downloads that were added before, the status before is that in the queue
before_are : (start : RunStart) (past : List Event) (ds : List Download)
    → ((i : ℕ) (d : Download) → slice_get ds i ≡ Some d
    → is_some (download_of (replay_of start past).downloads d.gid) ≡ true)
    → map (status_before start past) ds ≡ statuses_in (queue_in start past) (map added_as ds)
before_are start past [] each = refl
before_are start past (d ∷ ds) each =
    ap (λ (ss : List (Option Status)). status_before start past d ∷ ss)
    (before_are start past ds (λ i x there. each (suc i) x there))
    ∙ ap (λ (s : Option Status). s ∷ statuses_in (queue_in start past) (map added_as ds))
    (if_on (is_some (download_of (replay_of start past).downloads d.gid)) (status_of (queue_in start past) d.gid)
    (Some (counts_as d)) (each 0 d refl))

pub all_before : (start : RunStart) (past : List Event)
    → map (status_before start past) (replay_of start past).downloads
    ≡ statuses_in (queue_in start past) (map added_as (replay_of start past).downloads)
all_before start past =
    before_are start past (replay_of start past).downloads (there_is (replay_of start past).downloads)

-- ---- no change

none_changed : (s : Option Status) → kind_of_change s s ≡ None
none_changed None = refl
none_changed (Some status.Active) = refl
none_changed (Some status.Waiting) = refl
none_changed (Some status.Paused) = refl
none_changed (Some status.Failed) = refl
none_changed (Some status.Complete) = refl
none_changed (Some status.Removed) = refl

no_changes : (queue : QueueLists) (added : List Added) → changes (statuses_in queue added) queue added ≡ []
no_changes queue [] = refl
no_changes queue (d ∷ added) = rw (none_changed (status_of queue d.gid)) (no_changes queue added)

pub quiet_notices : (start : RunStart) (past : List Event) (e : Event) → replay_of start (e ∷ past) ≡ replay_of start past
    → notices_at start past e ≡ []
quiet_notices start past e same =
    notices_are start past e
    ∙ (ap (λ (r : Replay). changes (map (status_before start past) r.downloads) r.queue (map added_as r.downloads)) same
    ∙ (ap (λ (ss : List (Option Status)).
    changes ss (queue_in start past) (map added_as (replay_of start past).downloads)) (all_before start past)
    ∙ no_changes (queue_in start past) (map added_as (replay_of start past).downloads)))

pub quiet_takes : (gids : ℕ) (e : Event) (old new : NoticeLog) → is_quiet e ≡ true → new.queue ≡ old.queue
    → new.global ≡ old.global → new.seen.items ≡ old.seen.items → new.told.items ≡ old.told.items
    → TakesIn gids e old new
quiet_takes gids e old new quiet queue global seen told =
    record {
      takes = λ start past gids_is many k.
          let same = quiet_same e quiet start past in
          let none = quiet_notices start past e same in
          record {
            queue = record {
              queue_is = queue ∙ (k.queue.queue_is ∙ ap (λ (r : Replay). r.queue) (sym same));
              global_is = global ∙ (k.queue.global_is ∙ ap (λ (r : Replay). r.global) (sym same));
              shut_is = refl;
              added = ap (λ (r : Replay). r.queue.added) same
                  ∙ (k.queue.added ∙ ap (λ (r : Replay). map added_as r.downloads) (sym same));
            };
            seen = seen ∙ (k.seen ∙ ap (λ (q : QueueLists). statuses_in q q.added) (sym queue));
            told = told ∙ (k.told ∙ (sym (append-nil (notices_in start past))
                ∙ ap (λ (ns : List Notice). notices_in start past ++ placed (length past) 0 ns) (sym none)));
          };
    }

-- ---- a download that is added

-- none comes, or one of a gid that no other has
abbrev AddsNew : List Download → List Download → Type 0
AddsNew old new = (new ≡ old) ⊎ ((d : Download) × (new ≡ old ++ d ∷ []) × (download_of old d.gid ≡ None))

not_known : (t : Bool) (e : QueueErr) (rest : Option QueueErr) → is_some (cond t (Some e) rest) ≡ false → t ≡ false
not_known true e rest is = absurd cc
not_known false e rest is = refl

new_where : (t : Bool) (r more : Replay) (d : Download) (paused : Bool) (position : Option ℕ)
    → r.queue.added ≡ map added_as r.downloads → more.downloads ≡ r.downloads ++ d ∷ []
    → is_refused r.queue (Add d.gid d.options paused position) ≡ t → AddsNew r.downloads (cond t r more).downloads
new_where true r more d paused position added is refused = inl refl
new_where false r more d paused position added is refused =
    inr (
      d,
      is,
      place_none d.gid r.downloads r.queue.added added
          (no_place (was_added r.queue.added d.gid) _ (not_known (was_added r.queue.added d.gid) _ _ refused)),
    )

download_new : (start : RunStart) (r : Replay) (subject : Subject) (settings : List Assigned) (position : Option ℕ)
    → r.queue.added ≡ map added_as r.downloads
    → AddsNew r.downloads (with_download start r subject settings position).downloads
download_new start r subject settings position added =
    let options = with_settings r.global settings in
    let d : Download = record { gid = next_gid start r.downloads options; subject = subject; options = options } in
    let paused = not (number_value options num.Pause == 0) in
    new_where (is_refused r.queue (Add d.gid options paused position)) r _ d paused position added refl refl

none_of : (r : Replay) (queue_call : Gid → QueueCall) (o : Option Gid)
    → AddsNew r.downloads (with_call_of r queue_call o).downloads
none_of r queue_call None = inl refl
none_of r queue_call (Some gid) = inl refl

call_new : (start : RunStart) (r : Replay) (asked : Call) → r.queue.added ≡ map added_as r.downloads
    → AddsNew r.downloads (after_call start r asked).downloads
call_new start r (call.AddUri uris options position) added = download_new start r _ options position added
call_new start r (call.AddTorrent meta uris options position) added = download_new start r _ options position added
call_new start r (call.Remove key) added = none_of r Remove (keyed_gid r.queue key)
call_new start r (call.Pause key) added = none_of r Pause (keyed_gid r.queue key)
call_new start r (call.Unpause key) added = none_of r Unpause (keyed_gid r.queue key)
call_new start r call.PauseAll added = inl refl
call_new start r call.UnpauseAll added = inl refl
call_new start r (call.ChangeOption key options) added = inl refl
call_new start r (call.ChangeGlobalOption options) added = inl refl
call_new start r (call.TellStatus key) added = inl refl
call_new start r call.TellActive added = inl refl
call_new start r (call.TellWaiting offset num) added = inl refl
call_new start r (call.TellStopped offset num) added = inl refl
call_new start r (call.GetUris key) added = inl refl
call_new start r (call.GetFiles key) added = inl refl
call_new start r (call.GetOption key) added = inl refl
call_new start r call.GetGlobalOption added = inl refl
call_new start r call.GetGlobalStat added = inl refl
call_new start r (call.ChangePosition key position how) added =
    none_of r (λ gid. ChangePosition gid position how) (keyed_gid r.queue key)
call_new start r call.Purge added = inl refl
call_new start r (call.RemoveResult key) added = none_of r Forget (keyed_gid r.queue key)
call_new start r call.GetVersion added = inl refl
call_new start r call.Shutdown added = inl refl

event_new : (start : RunStart) (past : List Event) (e : Event)
    → (replay_of start past).queue.added ≡ map added_as (replay_of start past).downloads
    → AddsNew (replay_of start past).downloads (replay_of start (e ∷ past)).downloads
event_new start past (Called session asked now) added = call_new start (replay_of start past) asked added
event_new start past (Opened gid verified blocks now) added = inl refl
event_new start past (Sized gid id total) added = inl refl
event_new start past (Claimed gid claim) added = inl refl
event_new start past (Landed gid id mirror run now) added = inl refl
event_new start past (Settled gid piece right giver) added = inl refl
event_new start past (Cleared gid piece) added = inl refl
event_new start past (Lost gid id mirror piece mark) added = inl refl
event_new start past (Checked gid right) added = inl refl
event_new start past (Saved gid now) added = inl refl
event_new start past (Ended gid how) added = inl refl
event_new start past Left added = inl refl
event_new start past Stopped added = inl refl

length_map : {A B : Type 0} (f : A → B) (xs : List A) → length (map f xs) ≡ length xs
length_map f [] = refl
length_map f (x ∷ xs) = ap suc (length_map f xs)

if_none : {A B : Type 0} (o : Option A) (a b : B) → o ≡ None → cond (is_some o) a b ≡ b
if_none None a b is = refl
if_none (Some x) a b is = absurd cc

-- the statuses before the event, of all downloads behind it
counted : (start : RunStart) (past : List Event) (ds : List Download) (added : List Added)
    (old new : List (Option Status)) → AddsNew (replay_of start past).downloads ds → added ≡ map added_as ds
    → old ≡ map (status_before start past) (replay_of start past).downloads → AreCounted added old new
    → new ≡ map (status_before start past) ds
counted start past ds added old new (inl same) added_is old_is c =
    let n = ap (λ (xs : List Added). length xs) added_is in
    let m = length_added ds in
    let l = ap (λ (xs : List (Option Status)). length xs) old_is in
    let k = length_map (status_before start past) (replay_of start past).downloads in
    let j = ap (λ (xs : List Download). length xs) same in
    c.none (omega arith) ∙ (old_is ∙ ap (λ (xs : List Download). map (status_before start past) xs) (sym same))
counted start past ds added old new (inr (d, more, none)) added_is old_is c =
    let before = (replay_of start past).downloads in
    let all : added ≡ map added_as before ++ added_as d ∷ [] =
    added_is ∙ (ap (λ (xs : List Download). map added_as xs) more ∙ map-more before d) in
    let l = ap (λ (xs : List (Option Status)). length xs) old_is in
    let k = length_map (status_before start past) before in
    let m = length_added before in
    let many : length old ≡ length (map added_as before) = omega arith in
    let there : slice_get added (length old) ≡ Some (added_as d) =
    ap (slice_get added) many
    ∙ (ap (λ (xs : List Added). slice_get xs (length (map added_as before))) all ∙ at_end (map added_as before) (added_as d)) in
    let counts : status_before start past d ≡ Some (counts_as d) =
    if_none (download_of before d.gid) (status_of (queue_in start past) d.gid) (Some (counts_as d)) none in
    c.one (added_as d) there
    ∙ (ap (λ (xs : List (Option Status)). xs ++ Some (counts_as d) ∷ []) old_is
    ∙ (ap (λ (s : Option Status). map (status_before start past) before ++ s ∷ []) (sym counts)
    ∙ (sym (map-append (status_before start past) before (d ∷ []))
    ∙ ap (λ (xs : List Download). map (status_before start past) xs) (sym more))))

pub takes_in : (gids : ℕ) (e : Event) (old new : NoticeLog) (counts : List (Option Status))
    → FollowsEvent gids e old.queue new.queue old.global new.global
    → AreCounted new.queue.added old.seen.items counts
    → IsNoted old.covered new.queue counts new.seen.items old.told.items new.told.items → TakesIn gids e old new
takes_in gids e old new counts follows c noted =
    record {
      takes = λ start past gids_is many k.
          let r = replay_of start past in
          let r' = replay_of start (e ∷ past) in
          let q = follows start past gids_is k.queue in
          let old_added : old.queue.added ≡ map added_as r.downloads =
          ap (λ (x : QueueLists). x.added) k.queue.queue_is ∙ k.queue.added in
          let old_seen : old.seen.items ≡ map (status_before start past) r.downloads =
          k.seen
          ∙ (ap (λ (x : QueueLists). statuses_in x old.queue.added) k.queue.queue_is
          ∙ (ap (λ (xs : List Added). statuses_in r.queue xs) old_added ∙ sym (all_before start past))) in
          let added : new.queue.added ≡ map added_as r'.downloads =
          ap (λ (x : QueueLists). x.added) q.queue_is ∙ q.added in
          let counts_are : counts ≡ map (status_before start past) r'.downloads =
          counted start past r'.downloads new.queue.added old.seen.items counts (event_new start past e k.queue.added) added
          old_seen c in
          let n = ap (λ (xs : List (Option Status)). length xs) counts_are in
          let m = length_map (status_before start past) r'.downloads in
          let a = ap (λ (xs : List Added). length xs) added in
          let b = length_added r'.downloads in
          let all = noted (omega arith) in
          let here : changes counts new.queue new.queue.added ≡ notices_at start past e =
          ap (λ (ss : List (Option Status)). changes ss new.queue new.queue.added) counts_are
          ∙ (ap (λ (x : QueueLists). changes (map (status_before start past) r'.downloads) x new.queue.added) q.queue_is
          ∙ (ap (λ (xs : List Added). changes (map (status_before start past) r'.downloads) r'.queue xs) added
          ∙ sym (notices_are start past e))) in
          record {
            queue = q;
            seen = all.0;
            told = all.1
                ∙ (ap (λ (ps : List PlacedNotice). ps ++ placed old.covered 0 (changes counts new.queue new.queue.added)) k.told
                ∙ (ap (λ (i : ℕ). notices_in start past ++ placed i 0 (changes counts new.queue new.queue.added)) many
                ∙ ap (λ (ns : List Notice). notices_in start past ++ placed (length past) 0 ns) here));
          };
    }
