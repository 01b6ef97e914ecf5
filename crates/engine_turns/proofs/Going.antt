-- A download that ended is never active again.
use Rattle.std.proofs.Common.{◌≡◌, ℕ, suc, Bool, true, false, Option, Some, None, ◌+◌, ◌-◌, ◌≤◌, ◌==◌, ◌||◌, List, [], ◌∷◌, ◌++◌, length, map, refl, sym, ap, ◌∙◌, subst, arith}
use Rattle.std.specs.Prelude.{box_value, nat_lt, not}
use Rattle.std.specs.List.{list_any}
use Rattle.std.proofs.lemmas.Bool.{eqb-true, le-ltb, lt-ltb, ltb-false, ltb-true}
use Rattle.std.proofs.lemmas.List.{map-append}
use Rattle.dl_kinds.specs.declared.gid.Gid.{Gid}
use Rattle.dl_kinds.specs.declared.gid_key.GidKey.{GidKey}
use Rattle.dl_kinds.specs.declared.status.Status.{Status}
use Rattle.dl_kinds.specs.declared.status.Status.TheVariants as status
use Rattle.dl_history.specs.OwnEvents.{OwnEvent, Opens, Grants, Lands, Settles, Clears, Loses, Sizes, Saves, Checks}
use Rattle.dl_history.specs.PayloadParts.{is_ended, is_ending}
use Rattle.dl_queue.specs.Calls.{QueueCall, Add, SetLimit, Pause, Unpause, PauseAll, UnpauseAll, Remove, ChangePosition, Stop, Forget, Purge, added_place, after, effect, paused_from, refusal, stopped_from, unless_refused, was_added}
use Rattle.dl_queue.specs.Endings.{ending_by_status}
use Rattle.dl_queue.specs.Lists.{QueueLists}
use Rattle.dl_queue.specs.Places.{status_of}
use Rattle.dl_queue.specs.Rising.{moved_up}
use Rattle.dl_queue.specs.declared.kinds.Added.{Added}
use Rattle.dl_queue.specs.declared.kinds.Ending.{Ending}
use Rattle.dl_queue.specs.declared.kinds.QueueErr.{QueueErr}
use Rattle.machine_core.specs.MachineParts.{added_as}
use Rattle.machine_core.specs.OwnParts.{halted_where, halts_by, own_of, with_own}
use Rattle.machine_core.specs.Replays.{Replay, after_call, next_gid, with_settings, download_of, is_same_gid, keyed_gid, queue_in, replay_of, stop_of, with_download, with_keyed}
use Rattle.machine_core.specs.RunLegal.{IsLegal, MayBeEnded}
use Rattle.machine_core.specs.Starts.{Download, RunStart, Subject, Listed, Unlisted}
use Rattle.machine_core.specs.declared.calls.Call.{Call}
use Rattle.machine_core.specs.declared.calls.Call.TheVariants as call
use Rattle.machine_core.specs.declared.ends.End.{End}
use Rattle.machine_core.specs.declared.ends.End.TheVariants as end
use Rattle.machine_core.specs.declared.events.Event.{Event}
use Rattle.machine_core.specs.declared.events.Event.TheVariants.{Called, Opened, Sized, Claimed, Landed, Settled, Cleared, Lost, Checked, Saved, Ended, Left, Stopped}
use Rattle.option_set.specs.Values.{OptionValues, number_value}
use Rattle.option_set.specs.declared.kinds.Num.TheVariants as num
use Rattle.option_set.specs.declared.setting.Assigned.{Assigned}
use Rattle.engine_turns.specs.RunLaws.{ActiveAreGoing}
use Rattle.engine_turns.proofs.Once.{Stops, active_counts, add_more, forget_less, in_active, is_one, move_less, other_added, pause_all_less, pause_less, purge_less, remove_stops, set_limit_less, stop_stops, times, unpause_all_less, unpause_less}

-- ---- what was added

paused_added : (st : Option Status) (gid : Gid) (q : QueueLists) → (paused_from st gid q).added ≡ q.added
paused_added None gid q = refl
paused_added (Some status.Active) gid q = refl
paused_added (Some status.Waiting) gid q = refl
paused_added (Some status.Paused) gid q = refl
paused_added (Some status.Failed) gid q = refl
paused_added (Some status.Complete) gid q = refl
paused_added (Some status.Removed) gid q = refl

stopped_added : (st : Option Status) (gid : Gid) (end : Ending) (q : QueueLists)
    → (stopped_from st gid end q).added ≡ q.added
stopped_added None gid end q = refl
stopped_added (Some status.Active) gid end q = refl
stopped_added (Some status.Waiting) gid end q = refl
stopped_added (Some status.Paused) gid end q = refl
stopped_added (Some status.Failed) gid end q = refl
stopped_added (Some status.Complete) gid end q = refl
stopped_added (Some status.Removed) gid end q = refl

unless_added : (o : Option QueueErr) (old changed : QueueLists) → changed.added ≡ old.added
    → (unless_refused o changed old).added ≡ old.added
unless_added None old changed same = same
unless_added (Some e) old changed same = refl

-- a call that adds none
abbrev Adds : QueueLists → QueueCall → Type 0
Adds q c = (after q c).added ≡ q.added

adds_none : (q : QueueLists) (c : QueueCall) → (effect q c).added ≡ q.added → Adds q c
adds_none q c same = unless_added (refusal q c) q (moved_up (effect q c)) same

-- ---- a download among those that were added

abbrev pub is_added : Gid → Added → Bool
is_added g a = a.gid.0 == g.0

lt_suc_on : (a b : ℕ) (x : Bool) → nat_lt a b ≡ x → nat_lt (1 + a) (suc b) ≡ x
lt_suc_on a b true is = let h = ltb-true a b is in lt-ltb (1 + a) (suc b) (omega arith)
lt_suc_on a b false is = let h = ltb-false a b is in le-ltb (1 + a) (suc b) (omega arith)

lt_suc : (a b : ℕ) → nat_lt (1 + a) (suc b) ≡ nat_lt a b
lt_suc a b = lt_suc_on a b (nat_lt a b) refl

any_added_on : (g : Gid) (x : Added) (xs : List Added) (b : Bool) → (x.gid.0 == g.0) ≡ b
    → was_added xs g ≡ list_any (is_added g) xs → was_added (x ∷ xs) g ≡ list_any (is_added g) (x ∷ xs)
any_added_on g x xs true is rest = rw is (lt-ltb 0 (suc (length xs)) (omega arith))
any_added_on g x xs false is rest = rw is (lt_suc (added_place g xs) (length xs) ∙ rest)

pub any_added : (g : Gid) (xs : List Added) → was_added xs g ≡ list_any (is_added g) xs
any_added g [] = refl
any_added g (x ∷ xs) = any_added_on g x xs (x.gid.0 == g.0) refl (any_added g xs)

or_false : (b : Bool) → (b || false) ≡ b
or_false true = refl
or_false false = refl

or_assoc : (x y z : Bool) → (x || (y || z)) ≡ ((x || y) || z)
or_assoc true y z = refl
or_assoc false y z = refl

any_more : (g : Gid) (xs : List Added) (a : Added)
    → list_any (is_added g) (xs ++ a ∷ []) ≡ (list_any (is_added g) xs || is_added g a)
any_more g [] a = or_false (is_added g a)
any_more g (x ∷ xs) a =
    ap (λ (b : Bool). is_added g x || b) (any_more g xs a)
    ∙ or_assoc (is_added g x) (list_any (is_added g) xs) (is_added g a)

any_known_on : (g : Gid) (x : Download) (ds : List Download) (d : Download) (b : Bool) → (x.gid.0 == g.0) ≡ b
    → (download_of ds g ≡ Some d → list_any (is_added g) (map added_as ds) ≡ true)
    → download_of (x ∷ ds) g ≡ Some d → list_any (is_added g) (map added_as (x ∷ ds)) ≡ true
any_known_on g x ds d true here rest is = rw here refl
any_known_on g x ds d false here rest is = rw here (rest (rw here at is))

pub any_known : (g : Gid) (ds : List Download) (d : Download) → download_of ds g ≡ Some d
    → list_any (is_added g) (map added_as ds) ≡ true
any_known g [] d is = absurd cc
any_known g (x ∷ ds) d is = any_known_on g x ds d (x.gid.0 == g.0) refl (any_known g ds d) is

-- ---- once in the lists

pub record Once (g : Gid) (q : QueueLists) (own : List OwnEvent) : Type 0 where
  pub one : times g q ≤ 1
  pub ended : is_ended own ≡ true → times g q ≡ 0
  pub unadded : was_added q.added g ≡ false → times g q ≡ 0
  pub ended_added : is_ended own ≡ true → was_added q.added g ≡ true

goes_on : (g : Gid) (q q' : QueueLists) (own own' : List OwnEvent) → Once g q own → times g q' ≤ times g q
    → q'.added ≡ q.added → is_ended own' ≡ is_ended own → Once g q' own'
goes_on g q q' own own' o less added same =
    record {
      one = let x = o.one in omega arith;
      ended = λ e. let x = o.ended (sym same ∙ e) in omega arith;
      unadded = λ un. let x = o.unadded (ap (λ (a : List Added). was_added a g) (sym added) ∙ un) in omega arith;
      ended_added = λ e. ap (λ (a : List Added). was_added a g) added ∙ o.ended_added (sym same ∙ e);
    }

-- the queue stays as it is
stays : (g : Gid) (replay : Replay) (own own' : List OwnEvent) → Once g replay.queue own → is_ended own' ≡ is_ended own
    → Once g replay.queue own'
stays g replay own own' o same = goes_on g replay.queue replay.queue own own' o (omega arith) refl same

-- ---- calls

-- what a call of the queue leaves, if there is one
keyed_on : (g : Gid) (replay : Replay) (key : GidKey) (c : Gid → QueueCall) (own own' : List OwnEvent) → Once g
    replay.queue own
    → ((gid : Gid) → times g (after replay.queue (c gid)) ≤ times g replay.queue)
    → ((gid : Gid) → Adds replay.queue (c gid)) → is_ended own' ≡ is_ended own
    → Once g (with_keyed replay key c).queue own'
keyed_on g replay key c own own' o less adds same = by (keyed_gid replay.queue key) refl
  where
    by : (k : Option Gid) → keyed_gid replay.queue key ≡ k → Once g (with_keyed replay key c).queue own'
    by None is = rw is (goes_on g replay.queue replay.queue own own' o (omega arith) refl same)
    by (Some gid) is = rw is (goes_on g replay.queue (after replay.queue (c gid)) own own' o (less gid) (adds gid) same)

left_false : (x y : Bool) → (x || y) ≡ false → x ≡ false
left_false true y h = h
left_false false y h = refl

added_on : (g : Gid) (start : RunStart) (replay : Replay) (subject : Subject) (settings : List Assigned)
    (position : Option ℕ) (own own' : List OwnEvent) → Once g replay.queue own → is_ended own' ≡ is_ended own
    → Once g (with_download start replay subject settings position).queue own'
added_on g start replay subject settings position own own' o same = by (refusal replay.queue new) refl
  where
    options : OptionValues
    options = with_settings replay.global settings

    gid : Gid
    gid = next_gid start replay.downloads options

    new : QueueCall
    new = Add gid options (not (number_value options num.Pause == 0)) position

    fresh : refusal replay.queue new ≡ None → was_added replay.queue.added gid ≡ false
    fresh none = by_added (was_added replay.queue.added gid) refl
      where
        by_added : (b : Bool) → was_added replay.queue.added gid ≡ b → was_added replay.queue.added gid ≡ false
        by_added true is = absurd (let clash = rw is at none in cc)
        by_added false is = is

    put : QueueLists
    put = moved_up (effect replay.queue new)

    more : (h : Gid) → was_added put.added h ≡ (was_added replay.queue.added h || (gid.0 == h.0))
    more h =
        any_added h put.added ∙ any_more h replay.queue.added (record { gid = gid; options = options })
        ∙ ap (λ (b : Bool). b || (gid.0 == h.0)) (sym (any_added h replay.queue.added))

    own_new : was_added replay.queue.added gid ≡ false → (gid.0 == g.0) ≡ true → Once g put own'
    own_new un here =
        let is : gid ≡ g = ap (λ (n : ℕ). record { 0 = n }) (eqb-true gid.0 g.0 here) in
        let un_g : was_added replay.queue.added g ≡ false = subst (λ (h : Gid). was_added replay.queue.added h ≡
        false) is un in
        let none = o.unadded un_g in
        let count = add_more g gid options (not (number_value options num.Pause == 0)) position replay.queue in
        let one : in_active g gid ≡ 1 = ap is_one here in
        record {
          one = omega arith;
          ended = λ e. absurd (let a = o.ended_added (sym same ∙ e) in cc);
          unadded = λ u. absurd (let m = more g in let h = here in cc);
          ended_added = λ e. absurd (let a = o.ended_added (sym same ∙ e) in cc);
        }

    other_new : (gid.0 == g.0) ≡ false → Once g put own'
    other_new other =
        let count = add_more g gid options (not (number_value options num.Pause == 0)) position replay.queue in
        let none = other_added g gid other in
        record {
          one = let x = o.one in omega arith;
          ended = λ e. let x = o.ended (sym same ∙ e) in omega arith;
          unadded = λ u. let x = o.unadded (left_false (was_added replay.queue.added g) (gid.0 == g.0) (sym (more
              g) ∙ u)) in omega arith;
          ended_added = λ e. more g ∙ ap (λ (b : Bool). b || (gid.0 == g.0)) (o.ended_added (sym same ∙ e));
        }

    added : was_added replay.queue.added gid ≡ false → (b : Bool) → (gid.0 == g.0) ≡ b → Once g put own'
    added un true here = own_new un here
    added un false other = other_new other

    by : (r : Option QueueErr) → refusal replay.queue new ≡ r
        → Once g (with_download start replay subject settings position).queue own'
    by None is = rw is (added (fresh is) (gid.0 == g.0) refl)
    by (Some e) is = rw is (goes_on g replay.queue replay.queue own own' o (omega arith) refl same)

-- ---- a download's own events

own_ended : (g other : Gid) (x : OwnEvent) (own : List OwnEvent) → is_ending x ≡ false
    → is_ended (with_own other g x own) ≡ is_ended own
own_ended g other x own plain = by (is_same_gid g other) refl
  where
    by : (b : Bool) → is_same_gid g other ≡ b → is_ended (with_own other g x own) ≡ is_ended own
    by true is = rw (is, plain) refl
    by false is = rw is refl

halted_ended : (b : Bool) (own : List OwnEvent) → is_ended (halted_where b own) ≡ is_ended own
halted_ended true own = refl
halted_ended false own = refl

-- ---- ends

-- an end is a stop with some status
pub stop_with : (gid : Gid) (how : End) → (st : Status) × (stop_of gid how ≡ Stop gid st)
stop_with gid end.Complete = (status.Complete, refl)
stop_with gid (end.Dead piece mark) = (status.Failed, refl)
stop_with gid (end.Disk count) = (status.Failed, refl)
stop_with gid (end.Exists length) = (status.Failed, refl)
stop_with gid (end.PieceLength have want) = (status.Failed, refl)
stop_with gid (end.Length have want) = (status.Failed, refl)
stop_with gid end.InfoHash = (status.Failed, refl)
stop_with gid (end.Unreadable at) = (status.Failed, refl)
stop_with gid (end.TooLarge total) = (status.Failed, refl)
stop_with gid (end.SameFile other) = (status.Failed, refl)
stop_with gid (end.SameHash other) = (status.Failed, refl)
stop_with gid end.Checksum = (status.Failed, refl)

-- ---- all downloads that were added stand in the queue's list of those

-- of a replay
abbrev AddedAre : Replay → Type 0
AddedAre replay = replay.queue.added ≡ map added_as replay.downloads

added_after : (replay : Replay) (c : QueueCall) → AddedAre replay → Adds replay.queue c
    → (after replay.queue c).added ≡ map added_as replay.downloads
added_after replay c are none = none ∙ are

keyed_are : (replay : Replay) (key : GidKey) (c : Gid → QueueCall) → AddedAre replay
    → ((gid : Gid) → Adds replay.queue (c gid)) → AddedAre (with_keyed replay key c)
keyed_are replay key c are adds = by (keyed_gid replay.queue key) refl
  where
    by : (k : Option Gid) → keyed_gid replay.queue key ≡ k → AddedAre (with_keyed replay key c)
    by None is = rw is are
    by (Some gid) is = rw is (added_after replay (c gid) are (adds gid))

download_are : (start : RunStart) (replay : Replay) (subject : Subject) (settings : List Assigned) (position : Option ℕ)
    → AddedAre replay → AddedAre (with_download start replay subject settings position)
download_are start replay subject settings position are = by (refusal replay.queue new) refl
  where
    options : OptionValues
    options = with_settings replay.global settings

    gid : Gid
    gid = next_gid start replay.downloads options

    new : QueueCall
    new = Add gid options (not (number_value options num.Pause == 0)) position

    added : Download
    added = record { gid = gid; subject = subject; options = options }

    by : (r : Option QueueErr) → refusal replay.queue new ≡ r
        → AddedAre (with_download start replay subject settings position)
    by None is =
        rw is (ap (λ (xs : List Added). xs ++ added_as added ∷ []) are ∙ sym (map-append added_as replay.downloads
        (added ∷ [])))
    by (Some e) is = rw is are

call_are : (start : RunStart) (replay : Replay) (asked : Call) → AddedAre replay → AddedAre (after_call start
    replay asked)
call_are start replay (call.AddUri uris options position) are = download_are start replay (Unlisted uris) options
    position are
call_are start replay (call.AddTorrent meta uris options position) are =
    download_are start replay (Listed (box_value meta) uris) options position are
call_are start replay (call.Remove key) are =
    keyed_are replay key Remove are (λ gid. adds_none replay.queue (Remove gid)
    (stopped_added (status_of replay.queue gid) gid (ending_by_status status.Removed) replay.queue))
call_are start replay (call.Pause key) are =
    keyed_are replay key Pause are (λ gid. adds_none replay.queue (Pause gid)
    (paused_added (status_of replay.queue gid) gid replay.queue))
call_are start replay (call.Unpause key) are = keyed_are replay key Unpause are (λ gid. adds_none replay.queue
    (Unpause gid) refl)
call_are start replay call.PauseAll are = are
call_are start replay call.UnpauseAll are = are
call_are start replay (call.ChangeOption key options) are = are
call_are start replay (call.ChangeGlobalOption options) are = are
call_are start replay (call.TellStatus key) are = are
call_are start replay call.TellActive are = are
call_are start replay (call.TellWaiting offset num) are = are
call_are start replay (call.TellStopped offset num) are = are
call_are start replay (call.GetUris key) are = are
call_are start replay (call.GetFiles key) are = are
call_are start replay (call.GetOption key) are = are
call_are start replay call.GetGlobalOption are = are
call_are start replay call.GetGlobalStat are = are
call_are start replay (call.ChangePosition key position how) are =
    keyed_are replay key (λ gid. ChangePosition gid position how) are
    (λ gid. adds_none replay.queue (ChangePosition gid position how) refl)
call_are start replay call.Purge are = are
call_are start replay (call.RemoveResult key) are = keyed_are replay key Forget are (λ gid. adds_none replay.queue
    (Forget gid) refl)
call_are start replay call.GetVersion are = are
call_are start replay call.Shutdown are = are

pub added_are : (start : RunStart) (past : List Event) → AddedAre (replay_of start past)
added_are start [] = refl
added_are start (Called session asked now ∷ past) = call_are start (replay_of start past) asked (added_are start past)
added_are start (Opened gid verified blocks now ∷ past) = added_are start past
added_are start (Sized gid id total ∷ past) = added_are start past
added_are start (Claimed gid claim ∷ past) = added_are start past
added_are start (Landed gid id mirror run now ∷ past) = added_are start past
added_are start (Settled gid piece right giver ∷ past) = added_are start past
added_are start (Cleared gid piece ∷ past) = added_are start past
added_are start (Lost gid id mirror piece mark ∷ past) = added_are start past
added_are start (Checked gid right ∷ past) = added_are start past
added_are start (Saved gid now ∷ past) = added_are start past
added_are start (Ended gid how ∷ past) =
    let s = stop_with gid how in
    let q = queue_in start past in
    ap (λ (c : QueueCall). (after q c).added) s.1
    ∙ adds_none q (Stop gid s.0) (stopped_added (status_of q gid) gid (ending_by_status s.0) q)
    ∙ added_are start past
added_are start (Left ∷ past) = added_are start past
added_are start (Stopped ∷ past) = added_are start past

-- ---- every legal history

pub call_on : (g : Gid) (start : RunStart) (replay : Replay) (asked : Call) (own own' : List OwnEvent) → Once g
    replay.queue own
    → is_ended own' ≡ is_ended own → Once g (after_call start replay asked).queue own'
call_on g start replay (call.AddUri uris options position) own own' o same =
    added_on g start replay (Unlisted uris) options position own own' o same
call_on g start replay (call.AddTorrent meta uris options position) own own' o same =
    added_on g start replay (Listed (box_value meta) uris) options position own own' o same
call_on g start replay (call.Remove key) own own' o same =
    keyed_on g replay key Remove own own' o (λ gid. (remove_stops g gid replay.queue).less)
    (λ gid. adds_none replay.queue (Remove gid)
    (stopped_added (status_of replay.queue gid) gid (ending_by_status status.Removed) replay.queue)) same
call_on g start replay (call.Pause key) own own' o same =
    keyed_on g replay key Pause own own' o (λ gid. pause_less g gid replay.queue)
    (λ gid. adds_none replay.queue (Pause gid) (paused_added (status_of replay.queue gid) gid replay.queue)) same
call_on g start replay (call.Unpause key) own own' o same =
    keyed_on g replay key Unpause own own' o (λ gid. unpause_less g gid replay.queue)
    (λ gid. adds_none replay.queue (Unpause gid) refl) same
call_on g start replay call.PauseAll own own' o same =
    goes_on g replay.queue (after replay.queue PauseAll) own own' o (pause_all_less g replay.queue) refl same
call_on g start replay call.UnpauseAll own own' o same =
    goes_on g replay.queue (after replay.queue UnpauseAll) own own' o (unpause_all_less g replay.queue) refl same
call_on g start replay (call.ChangeGlobalOption options) own own' o same =
    let limit = number_value (with_settings replay.global options) num.MaxConcurrentDownloads in
    goes_on g replay.queue (after replay.queue (SetLimit limit)) own own' o (set_limit_less g limit replay.queue)
    refl same
call_on g start replay (call.ChangePosition key position how) own own' o same =
    keyed_on g replay key (λ gid. ChangePosition gid position how) own own' o
    (λ gid. move_less g gid position how replay.queue)
    (λ gid. adds_none replay.queue (ChangePosition gid position how) refl) same
call_on g start replay call.Purge own own' o same =
    goes_on g replay.queue (after replay.queue Purge) own own' o (purge_less g replay.queue) refl same
call_on g start replay (call.RemoveResult key) own own' o same =
    keyed_on g replay key Forget own own' o (λ gid. forget_less g gid replay.queue)
    (λ gid. adds_none replay.queue (Forget gid) refl) same
call_on g start replay (call.ChangeOption key options) own own' o same = stays g replay own own' o same
call_on g start replay (call.TellStatus key) own own' o same = stays g replay own own' o same
call_on g start replay call.TellActive own own' o same = stays g replay own own' o same
call_on g start replay (call.TellWaiting offset num) own own' o same = stays g replay own own' o same
call_on g start replay (call.TellStopped offset num) own own' o same = stays g replay own own' o same
call_on g start replay (call.GetUris key) own own' o same = stays g replay own own' o same
call_on g start replay (call.GetFiles key) own own' o same = stays g replay own own' o same
call_on g start replay (call.GetOption key) own own' o same = stays g replay own own' o same
call_on g start replay call.GetGlobalOption own own' o same = stays g replay own own' o same
call_on g start replay call.GetGlobalStat own own' o same = stays g replay own own' o same
call_on g start replay call.GetVersion own own' o same = stays g replay own own' o same
call_on g start replay call.Shutdown own own' o same = stays g replay own own' o same

-- the download that ends stands nowhere any more
ended_on : (g : Gid) (start : RunStart) (past : List Event) (gid : Gid) (how : End) → MayBeEnded start past gid how
    → Once g (queue_in start past) (own_of start past g)
    → Once g (queue_in start (Ended gid how ∷ past)) (own_of start (Ended gid how ∷ past) g)
ended_on g start past gid how may o = by (is_same_gid g gid) refl
  where
    q : QueueLists
    q = queue_in start past

    s : (st : Status) × (stop_of gid how ≡ Stop gid st)
    s = stop_with gid how

    stops : (h : Gid) → Stops h gid q (after q (stop_of gid how))
    stops h = subst (λ (c : QueueCall). Stops h gid q (after q c)) (sym s.1) (stop_stops h gid s.0 q)

    added : (after q (stop_of gid how)).added ≡ q.added
    added =
        ap (λ (c : QueueCall). (after q c).added) s.1
        ∙ adds_none q (Stop gid s.0) (stopped_added (status_of q gid) gid (ending_by_status s.0) q)

    known : was_added q.added gid ≡ true
    known =
        any_added gid q.added ∙ ap (list_any (is_added gid)) (added_are start past)
        ∙ any_known gid (replay_of start past).downloads may.own.download may.own.added

    by : (b : Bool) → is_same_gid g gid ≡ b
        → Once g (queue_in start (Ended gid how ∷ past)) (own_of start (Ended gid how ∷ past) g)
    by true is =
        let same : gid ≡ g = ap (λ (n : ℕ). record { 0 = n }) (eqb-true gid.0 g.0 is) in
        let own : times g (after q (stop_of gid how)) ≤ times g q - 1 =
        subst (λ (h : Gid). times h (after q (stop_of gid how)) ≤ times h q - 1) same (stops gid).own in
        let one = o.one in
        let there : was_added q.added g ≡ true = subst (λ (h : Gid). was_added q.added h ≡ true) same known in
        rw is (record {
          one = omega arith;
          ended = λ e. omega arith;
          unadded = λ un. omega arith;
          ended_added = λ e. ap (λ (a : List Added). was_added a g) added ∙ there;
        })
    by false is =
        rw is (goes_on g q (after q (stop_of gid how)) (own_of start past g) (own_of start past g) o (stops g).less
        added refl)

pub once : (g : Gid) (start : RunStart) (past : List Event) → IsLegal start past
    → Once g (queue_in start past) (own_of start past g)
once g start [] legal =
    record { one = omega arith; ended = λ e. absurd cc; unadded = λ un. refl; ended_added = λ e. absurd cc }
once g start (Called session asked now ∷ past) legal =
    call_on g start (replay_of start past) asked (own_of start past g)
    (own_of start (Called session asked now ∷ past) g) (once g start past legal.0)
    (halted_ended (halts_by start past (Called session asked now) asked g) (own_of start past g))
once g start (Opened gid verified blocks now ∷ past) legal =
    stays g (replay_of start past) (own_of start past g) (own_of start (Opened gid verified blocks now ∷ past) g)
    (once g start past legal.0) (own_ended g gid (Opens verified blocks now) (own_of start past g) refl)
once g start (Sized gid id total ∷ past) legal =
    stays g (replay_of start past) (own_of start past g) (own_of start (Sized gid id total ∷ past) g)
    (once g start past legal.0) (own_ended g gid (Sizes id total) (own_of start past g) refl)
once g start (Claimed gid claim ∷ past) legal =
    stays g (replay_of start past) (own_of start past g) (own_of start (Claimed gid claim ∷ past) g)
    (once g start past legal.0) (own_ended g gid (Grants claim) (own_of start past g) refl)
once g start (Landed gid id mirror run now ∷ past) legal =
    stays g (replay_of start past) (own_of start past g) (own_of start (Landed gid id mirror run now ∷ past) g)
    (once g start past legal.0) (own_ended g gid (Lands id mirror run) (own_of start past g) refl)
once g start (Settled gid piece right giver ∷ past) legal =
    stays g (replay_of start past) (own_of start past g) (own_of start (Settled gid piece right giver ∷ past) g)
    (once g start past legal.0) (own_ended g gid (Settles piece right giver) (own_of start past g) refl)
once g start (Cleared gid piece ∷ past) legal =
    stays g (replay_of start past) (own_of start past g) (own_of start (Cleared gid piece ∷ past) g)
    (once g start past legal.0) (own_ended g gid (Clears piece) (own_of start past g) refl)
once g start (Lost gid id mirror piece mark ∷ past) legal =
    stays g (replay_of start past) (own_of start past g) (own_of start (Lost gid id mirror piece mark ∷ past) g)
    (once g start past legal.0) (own_ended g gid (Loses id mirror piece mark) (own_of start past g) refl)
once g start (Checked gid right ∷ past) legal =
    stays g (replay_of start past) (own_of start past g) (own_of start (Checked gid right ∷ past) g)
    (once g start past legal.0) (own_ended g gid (Checks right) (own_of start past g) refl)
once g start (Saved gid now ∷ past) legal =
    stays g (replay_of start past) (own_of start past g) (own_of start (Saved gid now ∷ past) g)
    (once g start past legal.0) (own_ended g gid (Saves now) (own_of start past g) refl)
once g start (Ended gid how ∷ past) legal = ended_on g start past gid how legal.1 (once g start past legal.0)
once g start (Left ∷ past) legal = once g start past legal.0
once g start (Stopped ∷ past) legal =
    stays g (replay_of start past) (own_of start past g) (own_of start (Stopped ∷ past) g) (once g start past
    legal.0) refl

pub active_going : ActiveAreGoing
active_going start past gid legal active = by (is_ended (own_of start past gid)) refl
  where
    by : (b : Bool) → is_ended (own_of start past gid) ≡ b → is_ended (own_of start past gid) ≡ false
    by true is =
        let none = (once gid start past legal).ended is in
        let some = active_counts gid (queue_in start past) active in
        absurd (omega arith)
    by false is = is
