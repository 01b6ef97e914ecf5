-- In a run without a console some download is active as long as something is left to do.
use Rattle.std.proofs.Common.{◌≡◌, ◌≤◌, ℕ, zero, suc, Bool, true, false, List, [], ◌∷◌, ◌++◌, Option, Some, None, refl, sym, ap, subst, ◌∙◌, arith}
use Rattle.std.specs.Prelude.{◌-◌, ◌&&◌, ◌||◌, ◌==◌, not, length, Contains, box_value, count_by, if◌then◌else◌}
use Rattle.std.specs.List.{list_any}
use Rattle.dl_kinds.specs.declared.gid.Gid.{Gid}
use Rattle.dl_queue.specs.Calls.{QueueCall, Add, SetLimit, Pause, Unpause, PauseAll, UnpauseAll, Remove, ChangePosition, Forget, Purge, effect, refusal, unless_refused}
use Rattle.dl_queue.specs.Lists.{QueueLists}
use Rattle.dl_queue.specs.Places.{is_ready}
use Rattle.dl_queue.specs.Rising.{left_waiting, moved_up, risen}
use Rattle.dl_queue.specs.declared.kinds.Queued.{Queued}
use Rattle.dl_queue.specs.declared.kinds.QueueErr.{QueueErr}
use Rattle.machine_core.specs.Reads.{is_at_rest}
use Rattle.machine_core.specs.Replays.{Replay, after_call, is_refused, keyed_gid, next_gid, queue_in, replay_of, stop_of, with_call, with_call_of, with_download, with_settings}
use Rattle.machine_core.specs.RunLegal.{is_left, is_stop}
use Rattle.machine_core.specs.Starts.{RunStart, Subject, Listed, Unlisted}
use Rattle.machine_core.specs.declared.calls.Call.{Call}
use Rattle.machine_core.specs.declared.calls.Call.TheVariants as call
use Rattle.machine_core.specs.declared.events.Event.{Event}
use Rattle.machine_core.specs.declared.events.Event.TheVariants.{Called, Ended}
use Rattle.option_set.specs.Values.{number_value}
use Rattle.option_set.specs.declared.kinds.Num.TheVariants as num
use Rattle.option_set.specs.declared.setting.Assigned.{Assigned}
use Rattle.worker_turns.specs.Leisure.{LeisureIsActive}

-- where a download may be active and none is, none is ready
abbrev Quiet : QueueLists → Type 0
Quiet queue = 1 ≤ queue.limit → queue.active ≡ [] → list_any is_ready queue.waiting ≡ false

risen_by : (n : ℕ) (d : Queued) (ds : List Queued) (paused : Bool) → d.paused ≡ paused
    → (risen (suc n) ds ≡ [] → list_any is_ready (left_waiting (suc n) ds) ≡ false)
    → (if paused then risen (suc n) ds else d.gid ∷ risen n ds) ≡ []
    → list_any is_ready (if paused then d ∷ left_waiting (suc n) ds else left_waiting n ds) ≡ false
risen_by n d ds true is rest none =
    ap (λ (b : Bool). not b || list_any is_ready (left_waiting (suc n) ds)) is ∙ rest none
risen_by n d ds false is rest none = absurd (let no_way = none in cc)

none_risen : (n : ℕ) (ds : List Queued) → risen (suc n) ds ≡ [] → list_any is_ready (left_waiting (suc n) ds) ≡ false
none_risen n [] none = refl
none_risen n (d ∷ ds) none = risen_by n d ds d.paused refl (none_risen n ds) none

moved_by : (limit : ℕ) (active : List Gid) (ds : List Queued) → 1 ≤ limit
    → active ++ risen (limit - length active) ds ≡ []
    → list_any is_ready (left_waiting (limit - length active) ds) ≡ false
moved_by zero active ds some none = absurd (omega (arith, some))
moved_by (suc n) [] ds some none =
    let all : suc n ≡ suc n - 0 = omega arith in
    subst (λ (k : ℕ). risen k ds ≡ [] → list_any is_ready (left_waiting k ds) ≡ false) all (none_risen n ds) none
moved_by (suc n) (a ∷ active) ds some none = absurd (let no_way = none in cc)

moved_quiet : (queue : QueueLists) → Quiet (moved_up queue)
moved_quiet queue some none = moved_by queue.limit queue.active queue.waiting some none

unless_quiet : (refused : Option QueueErr) (changed same : QueueLists) → Quiet changed → Quiet same
    → Quiet (unless_refused refused changed same)
unless_quiet None changed same quiet was = quiet
unless_quiet (Some err) changed same quiet was = was

called_quiet : (r : Replay) (c : QueueCall) → Quiet r.queue → Quiet (with_call r c).queue
called_quiet r c was = unless_quiet (refusal r.queue c) (moved_up (effect r.queue c)) r.queue
    (moved_quiet (effect r.queue c)) was

keyed_quiet : (r : Replay) (f : Gid → QueueCall) (key : Option Gid) → Quiet r.queue → Quiet (with_call_of r f key).queue
keyed_quiet r f None was = was
keyed_quiet r f (Some gid) was = called_quiet r (f gid) was

either_quiet : (b : Bool) (x y : Replay) → Quiet x.queue → Quiet y.queue → Quiet (if b then x else y).queue
either_quiet true x y qx qy = qx
either_quiet false x y qx qy = qy

download_quiet : (start : RunStart) (r : Replay) (subject : Subject) (settings : List Assigned) (position : Option ℕ)
    → Quiet r.queue → Quiet (with_download start r subject settings position).queue
download_quiet start r subject settings position was =
    let options = with_settings r.global settings in
    let gid = next_gid start r.downloads options in
    let add = Add gid options (not (number_value options num.Pause == 0)) position in
    let added = record (with_call r add) {
      downloads = r.downloads ++ record { gid = gid; subject = subject; options = options } ∷ [];
    } in
    either_quiet (is_refused r.queue add) r added was (called_quiet r add was)

asked_quiet : (start : RunStart) (r : Replay) (asked : Call) → Quiet r.queue → Quiet (after_call start r asked).queue
asked_quiet start r (call.AddUri uris options position) was = download_quiet start r (Unlisted uris) options position
    was
asked_quiet start r (call.AddTorrent meta uris options position) was =
    download_quiet start r (Listed (box_value meta) uris) options position was
asked_quiet start r (call.Remove key) was = keyed_quiet r Remove (keyed_gid r.queue key) was
asked_quiet start r (call.Pause key) was = keyed_quiet r Pause (keyed_gid r.queue key) was
asked_quiet start r (call.Unpause key) was = keyed_quiet r Unpause (keyed_gid r.queue key) was
asked_quiet start r call.PauseAll was = called_quiet r PauseAll was
asked_quiet start r call.UnpauseAll was = called_quiet r UnpauseAll was
asked_quiet start r (call.ChangeGlobalOption options) was =
    called_quiet r (SetLimit (number_value (with_settings r.global options) num.MaxConcurrentDownloads)) was
asked_quiet start r (call.ChangePosition key position how) was =
    keyed_quiet r (λ gid. ChangePosition gid position how) (keyed_gid r.queue key) was
asked_quiet start r call.Purge was = called_quiet r Purge was
asked_quiet start r (call.RemoveResult key) was = keyed_quiet r Forget (keyed_gid r.queue key) was
asked_quiet start r call.Shutdown was = was
asked_quiet start r other was = was

queue_quiet : (start : RunStart) (past : List Event) → Quiet (queue_in start past)
queue_quiet start [] = λ some none. refl
queue_quiet start (Called session asked now ∷ past) =
    asked_quiet start (replay_of start past) asked (queue_quiet start past)
queue_quiet start (Ended gid how ∷ past) = called_quiet (replay_of start past) (stop_of gid how) (queue_quiet start
    past)
queue_quiet start (e ∷ past) = queue_quiet start past

-- ---- some is active

third_false : (x y z : Bool) → x || y || z ≡ false → z ≡ false
third_false false false z is = is
third_false true y z is = absurd (let no_way = is in cc)
third_false false true z is = absurd (let no_way = is in cc)

unless_rest : (doors : ℕ) (rest : Bool) → doors ≡ 0 → (doors == 0 && rest) ≡ false → rest ≡ false
unless_rest zero rest none is = is
unless_rest (suc n) rest none is = absurd (let no_way = none in cc)

active_by : (active : List Gid) (ready : Bool) → (active ≡ [] → ready ≡ false)
    → (length active == 0 && not ready) ≡ false → (gid : Gid) × Contains active gid
active_by [] ready quiet awake =
    absurd (let no_way : true ≡ false = sym (ap (λ (b : Bool). not b) (quiet refl)) ∙ awake in cc)
active_by (gid ∷ gids) ready quiet awake = (gid, (0, omega arith, refl))

pub leisure_active : LeisureIsActive
leisure_active start past doorless room leisure =
    let queue = queue_in start past in
    let none : start.doors - count_by is_left past ≡ 0 = omega (arith, doorless) in
    active_by queue.active (list_any is_ready queue.waiting) (queue_quiet start past room)
    (unless_rest (start.doors - count_by is_left past) (is_at_rest queue) none
    (third_false (replay_of start past).shut (list_any is_stop past) _ leisure.going))
