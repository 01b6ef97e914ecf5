-- The calls that neither add downloads nor set options.
use Rattle.std.proofs.Common.{◌≡◌, ℤ, Bool, true, false, Option, Some, None, List, refl, sym, ap, ◌∙◌, subst}
use Rattle.std.specs.Prelude.{◌&&◌, ◌||◌, not}
use Rattle.dl_kinds.specs.declared.gid.Gid.{Gid}
use Rattle.dl_kinds.specs.declared.gid_key.GidKey.{GidKey}
use Rattle.dl_kinds.specs.declared.status.Status.{Status}
use Rattle.dl_kinds.specs.declared.status.Status.TheVariants as status
use Rattle.dl_queue.specs.Calls.{QueueCall, after, effect, paused_from, target_of}
use Rattle.dl_queue.specs.Calls.{ChangePosition, Forget, Pause, Remove, Unpause}
use Rattle.dl_queue.specs.Endings.{ending_by_status}
use Rattle.dl_queue.specs.Lists.{QueueLists}
use Rattle.dl_queue.specs.Places.{status_of}
use Rattle.dl_queue.specs.declared.kinds.Added.{Added}
use Rattle.dl_queue.specs.declared.kinds.How.{How}
use Rattle.machine_core.specs.Answers.{applied_in, call_answer, keyed_answer}
use Rattle.machine_core.specs.CallParts.{AreHaltedWhere, ComesTo, IsPlainCall, StandInOrder, leaves_active, queue_keyed}
use Rattle.machine_core.specs.Replays.{Replay, has_active, is_same_gid, keyed_gid, with_call_of, with_keyed}
use Rattle.machine_core.specs.Starts.{RunStart}
use Rattle.machine_core.specs.declared.applied.Applied.{Applied}
use Rattle.machine_core.specs.declared.applied.Applied.TheVariants.{Fine, Moved, Named}
use Rattle.machine_core.specs.declared.calls.Call.{Call}
use Rattle.machine_core.specs.declared.calls.Call.TheVariants as call
use Rattle.machine_core.specs.declared.entries.Entry.{Entry}
use Rattle.machine_core.proofs.CallHalts.{none_leaves, one_left}
use Rattle.machine_core.proofs.Leaving.{StayActive, call_adds_none, call_stays, pause_keeps, remove_keeps, stopped_added}

-- ---- calls of the download that a key names

comes_of : (r : Replay) (queue_call : Gid → QueueCall) (o : Option Gid)
    → ComesTo (queue_keyed r.queue queue_call o) r.shut r (with_call_of r queue_call o)
comes_of r queue_call None = record { queue_is = refl; downloads_is = refl; global_is = refl; shut_is = refl }
comes_of r queue_call (Some gid) = record { queue_is = refl; downloads_is = refl; global_is = refl; shut_is = refl }

pub comes_keyed : (r : Replay) (queue_call : Gid → QueueCall) (key : GidKey) (old new : QueueLists) (was : Bool)
    → r.queue ≡ old → r.shut ≡ was → new ≡ queue_keyed old queue_call (keyed_gid old key)
    → ComesTo new was r (with_keyed r key queue_call)
comes_keyed r queue_call key old new was queue shut is =
    let c = comes_of r queue_call (keyed_gid r.queue key) in
    record {
      queue_is = c.queue_is ∙ (ap (λ (q : QueueLists). queue_keyed q queue_call (keyed_gid q key)) queue ∙ sym is);
      downloads_is = c.downloads_is;
      global_is = c.global_is;
      shut_is = c.shut_is ∙ shut;
    }

keyed_adds_none : (queue : QueueLists) (queue_call : Gid → QueueCall) (o : Option Gid)
    → ((gid : Gid) → (after queue (queue_call gid)).added ≡ queue.added)
    → (queue_keyed queue queue_call o).added ≡ queue.added
keyed_adds_none queue queue_call None none = refl
keyed_adds_none queue queue_call (Some gid) none = none gid

keyed_stays : (queue : QueueLists) (queue_call : Gid → QueueCall) (o : Option Gid)
    → ((gid : Gid) → StayActive queue (after queue (queue_call gid)))
    → StayActive queue (queue_keyed queue queue_call o)
keyed_stays queue queue_call None stay gid on = on
keyed_stays queue queue_call (Some keyed) stay gid on = stay keyed gid on

-- a call that leaves the active downloads active
stays_by : (old new : QueueLists) (queue_call : Gid → QueueCall) (key : GidKey) (xs : List Entry)
    → new ≡ queue_keyed old queue_call (keyed_gid old key)
    → ((gid : Gid) → (effect old (queue_call gid)).active ≡ old.active)
    → AreHaltedWhere (λ gid. false || leaves_active old new gid) xs xs
stays_by old new queue_call key xs is same =
    none_leaves old new xs
    (subst (λ (q : QueueLists). StayActive old q) (sym is)
    (keyed_stays old queue_call (keyed_gid old key) (λ gid. call_stays old (queue_call gid) (same gid))))

adds_none : (old new : QueueLists) (queue_call : Gid → QueueCall) (key : GidKey)
    → new ≡ queue_keyed old queue_call (keyed_gid old key)
    → ((gid : Gid) → (after old (queue_call gid)).added ≡ old.added) → new.added ≡ old.added
adds_none old new queue_call key is none =
    ap (λ (q : QueueLists). q.added) is ∙ keyed_adds_none old queue_call (keyed_gid old key) none

answer_at : (asked : Call) (old : QueueLists) (applied : Applied) (start : RunStart) (r : Replay)
    → r.queue ≡ old → applied ≡ applied_in start (record r { queue = old }) asked → applied ≡ applied_in start r asked
answer_at asked old applied start r queue is =
    subst (λ (q : QueueLists). applied ≡ applied_in start (record r { queue = q }) asked) (sym queue) is

pub unpausing : (key : GidKey) (old new : QueueLists) (was : Bool) (xs : List Entry) (applied : Applied)
    → new ≡ queue_keyed old Unpause (keyed_gid old key)
    → applied ≡ keyed_answer old key (λ gid. call_answer old (Unpause gid) (Named gid))
    → IsPlainCall (call.Unpause key) old new was was xs xs applied
unpausing key old new was xs applied is answer =
    record {
      comes = λ start r queue shut. comes_keyed r Unpause key old new was queue shut is;
      answer = λ start r queue. answer_at (call.Unpause key) old applied start r queue answer;
      added = adds_none old new Unpause key is (λ gid. call_adds_none old (Unpause gid) refl);
      options = λ start past session now download. refl;
      halts = stays_by old new Unpause key xs is (λ gid. refl);
    }

pub forgetting : (key : GidKey) (old new : QueueLists) (was : Bool) (xs : List Entry) (applied : Applied)
    → new ≡ queue_keyed old Forget (keyed_gid old key)
    → applied ≡ keyed_answer old key (λ gid. call_answer old (Forget gid) Fine)
    → IsPlainCall (call.RemoveResult key) old new was was xs xs applied
forgetting key old new was xs applied is answer =
    record {
      comes = λ start r queue shut. comes_keyed r Forget key old new was queue shut is;
      answer = λ start r queue. answer_at (call.RemoveResult key) old applied start r queue answer;
      added = adds_none old new Forget key is (λ gid. call_adds_none old (Forget gid) refl);
      options = λ start past session now download. refl;
      halts = stays_by old new Forget key xs is (λ gid. refl);
    }

pub moving : (key : GidKey) (position : ℤ) (how : How) (old new : QueueLists) (was : Bool) (xs : List Entry)
    (applied : Applied) → new ≡ queue_keyed old (λ gid. ChangePosition gid position how) (keyed_gid old key)
    → applied ≡ keyed_answer old key (λ gid.
    call_answer old (ChangePosition gid position how) (Moved (target_of old.waiting gid position how)))
    → IsPlainCall (call.ChangePosition key position how) old new was was xs xs applied
moving key position how old new was xs applied is answer =
    record {
      comes = λ start r queue shut.
          comes_keyed r (λ gid. ChangePosition gid position how) key old new was queue shut is;
      answer = λ start r queue. answer_at (call.ChangePosition key position how) old applied start r queue answer;
      added = adds_none old new (λ gid. ChangePosition gid position how) key is
          (λ gid. call_adds_none old (ChangePosition gid position how) refl);
      options = λ start past session now download. refl;
      halts = stays_by old new (λ gid. ChangePosition gid position how) key xs is (λ gid. refl);
    }

-- ---- calls by which a download leaves

paused_added : (st : Option Status) (gid : Gid) (queue : QueueLists) → (paused_from st gid queue).added ≡ queue.added
paused_added None gid queue = refl
paused_added (Some status.Active) gid queue = refl
paused_added (Some status.Waiting) gid queue = refl
paused_added (Some status.Paused) gid queue = refl
paused_added (Some status.Failed) gid queue = refl
paused_added (Some status.Complete) gid queue = refl
paused_added (Some status.Removed) gid queue = refl

pub pause_adds_none : (queue : QueueLists) (gid : Gid) → (after queue (Pause gid)).added ≡ queue.added
pause_adds_none queue gid = call_adds_none queue (Pause gid) (paused_added (status_of queue gid) gid queue)

pub remove_adds_none : (queue : QueueLists) (gid : Gid) → (after queue (Remove gid)).added ≡ queue.added
remove_adds_none queue gid = call_adds_none queue (Remove gid) (stopped_added (status_of queue gid) gid (ending_by_status status.Removed) queue)

pub pausing : (key : GidKey) (old new : QueueLists) (was : Bool) (xs ys : List Entry) (applied : Applied)
    → new ≡ queue_keyed old Pause (keyed_gid old key)
    → applied ≡ keyed_answer old key (λ gid. call_answer old (Pause gid) (Named gid))
    → AreHaltedWhere (leaves_active old new) xs ys → IsPlainCall (call.Pause key) old new was was xs ys applied
pausing key old new was xs ys applied is answer halts =
    record {
      comes = λ start r queue shut. comes_keyed r Pause key old new was queue shut is;
      answer = λ start r queue. answer_at (call.Pause key) old applied start r queue answer;
      added = adds_none old new Pause key is (pause_adds_none old);
      options = λ start past session now download. refl;
      halts = halts;
    }

pub removing : (key : GidKey) (old new : QueueLists) (was : Bool) (xs ys : List Entry) (applied : Applied)
    → new ≡ queue_keyed old Remove (keyed_gid old key)
    → applied ≡ keyed_answer old key (λ gid. call_answer old (Remove gid) (Named gid))
    → AreHaltedWhere (leaves_active old new) xs ys → IsPlainCall (call.Remove key) old new was was xs ys applied
removing key old new was xs ys applied is answer halts =
    record {
      comes = λ start r queue shut. comes_keyed r Remove key old new was queue shut is;
      answer = λ start r queue. answer_at (call.Remove key) old applied start r queue answer;
      added = adds_none old new Remove key is (remove_adds_none old);
      options = λ start past session now download. refl;
      halts = halts;
    }

-- ---- the claims of the one that leaves

pub pause_halts : (old new : QueueLists) (gid : Gid) (xs ys : List Entry) (was : Bool) → new ≡ after old (Pause gid)
    → was ≡ has_active old gid
    → AreHaltedWhere (λ other. is_same_gid gid other && (was && not (has_active new gid))) xs ys
    → AreHaltedWhere (leaves_active old new) xs ys
pause_halts old new gid xs ys was is was_is h =
    one_left old new gid xs ys
    (λ other apart on. subst (λ (q : QueueLists). has_active q other ≡ true) (sym is) (pause_keeps old gid other apart on))
    (subst (λ (t : Bool). AreHaltedWhere (λ other. is_same_gid gid other && (t && not (has_active new gid))) xs ys) was_is h)

pub remove_halts : (old new : QueueLists) (gid : Gid) (xs ys : List Entry) (was : Bool) → new ≡ after old (Remove gid)
    → was ≡ has_active old gid
    → AreHaltedWhere (λ other. is_same_gid gid other && (was && not (has_active new gid))) xs ys
    → AreHaltedWhere (leaves_active old new) xs ys
remove_halts old new gid xs ys was is was_is h =
    one_left old new gid xs ys
    (λ other apart on. subst (λ (q : QueueLists). has_active q other ≡ true) (sym is) (remove_keeps old gid other apart on))
    (subst (λ (t : Bool). AreHaltedWhere (λ other. is_same_gid gid other && (t && not (has_active new gid))) xs ys) was_is h)

pub none_halted_by : (queue : QueueLists) (xs : List Entry) → AreHaltedWhere (leaves_active queue queue) xs xs
none_halted_by queue xs = none_leaves queue queue xs (λ gid on. on)

-- entries stand in order while no download is added
pub order_on : (old new : QueueLists) (xs : List Entry) → new.added ≡ old.added → StandInOrder old.added xs
    → StandInOrder new.added xs
order_on old new xs same k = subst (λ (all : List Added). StandInOrder all xs) (sym same) k

pub pause_adds_none_by : (old new : QueueLists) (gid : Gid) → new ≡ after old (Pause gid) → new.added ≡ old.added
pause_adds_none_by old new gid is = ap (λ (q : QueueLists). q.added) is ∙ pause_adds_none old gid

pub remove_adds_none_by : (old new : QueueLists) (gid : Gid) → new ≡ after old (Remove gid) → new.added ≡ old.added
remove_adds_none_by old new gid is = ap (λ (q : QueueLists). q.added) is ∙ remove_adds_none old gid
