-- Calls that take no download off.
use Rattle.std.proofs.Common.{◌≡◌, inr, ⊎_elim, ◌≤◌, ℕ, Bool, true, false, Option, Some, None, List, [], ◌∷◌, refl, sym, ◌∙◌, arith}
use Rattle.std.specs.Prelude.{◌==◌, ◌++◌, if◌then◌else◌, not}
use Rattle.std.specs.Option.{option_map_or}
use Rattle.std.proofs.lemmas.Bool.{false≢true}
use Rattle.dl_kinds.specs.declared.gid.Gid.{Gid}
use Rattle.dl_kinds.specs.declared.runs.Moment.{Moment}
use Rattle.dl_kinds.specs.declared.status.Status.{Status}
use Rattle.dl_queue.specs.Calls.{QueueCall, Add, after, effect, is_unfinished, refusal, unless_refused}
use Rattle.dl_queue.specs.Endings.{ended_status}
use Rattle.dl_queue.specs.Lists.{QueueLists}
use Rattle.dl_queue.specs.Rising.{moved_up}
use Rattle.dl_queue.specs.declared.kinds.Ending.{Ending}
use Rattle.dl_queue.specs.declared.kinds.Ending.TheVariants as ending
use Rattle.dl_queue.specs.declared.kinds.QueueErr.{QueueErr}
use Rattle.engine_turns.specs.CallRows.{AreThose, IsSavedOff, IsTakenOff}
use Rattle.engine_turns.proofs.Once.{add_more, by_status_of, there_in_active, there_in_waiting, times}
use Rattle.machine_core.specs.Replays.{Replay, has_active, is_active_in, is_refused, next_gid, queue_in, replay_of, with_call, with_download, with_settings}
use Rattle.machine_core.specs.RunLegal.{goes_on, goes_on_in}
use Rattle.machine_core.specs.Starts.{RunStart, Subject, Listed, Unlisted}
use Rattle.machine_core.specs.declared.calls.Call.{Call}
use Rattle.machine_core.specs.declared.calls.Call.TheVariants as call
use Rattle.machine_core.specs.declared.events.Event.{Event}
use Rattle.machine_core.specs.declared.events.Event.TheVariants.{Called}
use Rattle.machine_core.proofs.Leaving.{call_stays}
use Rattle.option_set.specs.Values.{OptionValues, number_value}
use Rattle.option_set.specs.declared.kinds.Num.TheVariants as num
use Rattle.option_set.specs.declared.setting.Assigned.{Assigned}
use Rattle.stored_run.specs.Quiet.{is_quiet}

-- ---- downloads that go on stand in a list

unended : (e : Ending) → is_unfinished (ended_status e) ≡ false
unended ending.Complete = refl
unended ending.Failed = refl
unended ending.Removed = refl

counted : (gid : Gid) (q : QueueLists) → goes_on q gid ≡ true → 1 ≤ times gid q
counted gid q going =
    by_status_of q gid (λ (st : Option Status). option_map_or is_unfinished st false ≡ true → 1 ≤ times gid q)
    (record {
      active = λ within is. there_in_active gid q within;
      paused = λ within is. there_in_waiting gid q within;
      waiting = λ within is. there_in_waiting gid q within;
      ended = λ none e is. absurd (false≢true (sym (unended e) ∙ is));
      none = λ none is. absurd (false≢true is);
    }) going

there : (gid : Gid) (q : QueueLists) → 1 ≤ times gid q → goes_on q gid ≡ true
there gid q some =
    by_status_of q gid (λ (st : Option Status). option_map_or is_unfinished st false ≡ true)
    (record {
      active = λ within. refl;
      paused = λ within. refl;
      waiting = λ within. refl;
      ended = λ none e. absurd (omega (arith, some, none));
      none = λ none. absurd (omega (arith, some, none));
    })

-- ---- what stays

-- the active ones stay active, and those that go on go on
record Keeps (old new : QueueLists) : Type 0 where
  active : (gid : Gid) → has_active old gid ≡ true → has_active new gid ≡ true
  going : (gid : Gid) → goes_on old gid ≡ true → goes_on new gid ≡ true

same_kept : (q : QueueLists) → Keeps q q
same_kept q = record { active = λ gid is. is; going = λ gid is. is }

module _ (q : QueueLists) (gid : Gid) (options : OptionValues) (paused : Bool) (position : Option ℕ) where
  abbrev adds : QueueCall
  adds = Add gid options paused position

  goes_behind : (other : Gid) → goes_on q other ≡ true → goes_on (moved_up (effect q adds)) other ≡ true
  goes_behind other is =
      let more = add_more other gid options paused position q in
      let one = counted other q is in
      there other (moved_up (effect q adds)) (omega (arith, more, one))

  goes_unless : (o : Option QueueErr) (other : Gid) → goes_on q other ≡ true
      → goes_on (unless_refused o (moved_up (effect q adds)) q) other ≡ true
  goes_unless None other is = goes_behind other is
  goes_unless (Some e) other is = is

  add_kept : Keeps q (after q adds)
  add_kept = record {
    active = call_stays q adds refl;
    going = goes_unless (refusal q adds);
  }

download_kept : (start : RunStart) (replay : Replay) (subject : Subject) (settings : List Assigned) (position : Option ℕ)
    → Keeps replay.queue (with_download start replay subject settings position).queue
download_kept start replay subject settings position = by (is_refused replay.queue (Add gid options paused position))
  where
    options : OptionValues
    options = with_settings replay.global settings

    gid : Gid
    gid = next_gid start replay.downloads options

    paused : Bool
    paused = not (number_value options num.Pause == 0)

    by : (refused : Bool) → Keeps replay.queue
        (if refused then replay else record (with_call replay (Add gid options paused position)) {
          downloads = replay.downloads ++ record { gid = gid; subject = subject; options = options } ∷ [];
        }).queue
    by true = same_kept replay.queue
    by false = add_kept replay.queue gid options paused position

-- ---- calls

calls_kept : (start : RunStart) (past : List Event) (session : ℕ) (asked : Call) (now : Moment) → is_quiet asked ≡ true
    → Keeps (queue_in start past) (queue_in start (Called session asked now ∷ past))
calls_kept start past session (call.AddUri uris options position) now quiet =
    download_kept start (replay_of start past) (Unlisted uris) options position
calls_kept start past session (call.AddTorrent meta uris options position) now quiet =
    download_kept start (replay_of start past) (Listed _ uris) options position
calls_kept start past session (call.ChangeOption key options) now quiet = same_kept (queue_in start past)
calls_kept start past session (call.TellStatus key) now quiet = same_kept (queue_in start past)
calls_kept start past session call.TellActive now quiet = same_kept (queue_in start past)
calls_kept start past session (call.TellWaiting offset num) now quiet = same_kept (queue_in start past)
calls_kept start past session (call.TellStopped offset num) now quiet = same_kept (queue_in start past)
calls_kept start past session (call.GetUris key) now quiet = same_kept (queue_in start past)
calls_kept start past session (call.GetFiles key) now quiet = same_kept (queue_in start past)
calls_kept start past session (call.GetOption key) now quiet = same_kept (queue_in start past)
calls_kept start past session call.GetGlobalOption now quiet = same_kept (queue_in start past)
calls_kept start past session call.GetGlobalStat now quiet = same_kept (queue_in start past)
calls_kept start past session call.GetVersion now quiet = same_kept (queue_in start past)
calls_kept start past session other now quiet = absurd cc

clash : (was is : Bool) → (was ≡ true → is ≡ true) → (was ≡ true) × (is ≡ false) → ⊥
clash was is keeps both = false≢true (sym both.1 ∙ keeps both.0)

none_taken : (start : RunStart) (past : List Event) (session : ℕ) (asked : Call) (now : Moment) → is_quiet asked ≡ true
    → (gid : Gid) → IsTakenOff start past (Called session asked now ∷ past) gid → ⊥
none_taken start past session asked now quiet gid off =
    let kept = calls_kept start past session asked now quiet in
    let after = Called session asked now ∷ past in
    ⊎_elim (clash (is_active_in start past gid) (is_active_in start after gid) (kept.active gid))
    (clash (goes_on_in start past gid) (goes_on_in start after gid) (kept.going gid)) off

-- none is to be saved
pub none_saved : (start : RunStart) (past : List Event) (session : ℕ) (asked : Call) (now : Moment)
    → is_quiet asked ≡ true → (gids : List Gid)
    → AreThose (IsSavedOff start past (Called session asked now ∷ past)) gids []
none_saved start past session asked now quiet [] = refl
none_saved start past session asked now quiet (gid ∷ gids) = inr (
  λ is. none_taken start past session asked now quiet gid is.off,
  none_saved start past session asked now quiet gids,
)
