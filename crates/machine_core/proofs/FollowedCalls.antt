-- A queue that follows calls.
use Rattle.std.proofs.Common.{◌≡◌, ℕ, true, Option, Some, None, Result, Ok, Err, List, [], ◌∷◌, ◌++◌, OnOk, refl, sym, ap, ◌∙◌, subst}
use Rattle.std.specs.Prelude.{map}
use Rattle.std.specs.Option.{is_some}
use Rattle.dl_kinds.specs.declared.gid.Gid.{Gid}
use Rattle.dl_kinds.specs.declared.gid_key.GidKey.{GidKey}
use Rattle.dl_queue.specs.Calls.{after, effect, QueueCall, refusal}
use Rattle.dl_queue.specs.Lists.{QueueLists}
use Rattle.dl_queue.specs.Rising.{moved_up}
use Rattle.dl_queue.specs.declared.kinds.Added.{Added}
use Rattle.dl_queue.specs.declared.kinds.QueueErr.{QueueErr}
use Rattle.option_set.specs.Values.{OptionValues}
use Rattle.option_set.specs.declared.setting.Assigned.{Assigned}
use Rattle.machine_core.specs.CallParts.{add_call, ComesTo, queue_keyed}
use Rattle.machine_core.specs.MachineParts.{added_as, KeepsQueue}
use Rattle.machine_core.specs.NoticeLogs.{asks, FollowsCall, FollowsPlain, FollowsQueue, is_quiet, IsQueueAddition}
use Rattle.machine_core.specs.Replays.{after_call, is_refused, keyed_gid, Replay, replay_of, with_download, with_keyed, with_settings}
use Rattle.machine_core.specs.Starts.{Download, RunStart, Subject}
use Rattle.machine_core.specs.declared.calls.Call.{Call}
use Rattle.machine_core.specs.declared.calls.Call.TheVariants as call
use Rattle.machine_core.specs.declared.events.Event.{Event}
use Rattle.machine_core.specs.declared.events.Event.TheVariants.{Called, Opened, Sized, Claimed, Landed, Settled, Cleared, Lost, Checked, Saved, Ended, Left, Stopped}
use Rattle.machine_core.proofs.AddingCalls.{added_replay, refused, replay_is, taken, unless_none, unless_some}
use Rattle.machine_core.proofs.NewDownloads.{map-more}
use Rattle.machine_core.proofs.PlainCalls.{comes_keyed}

pub on_ok : {T E : Type 0} (r : Result T E) (P Q : Type 0) → (P → Q) → OnOk r P → OnOk r Q
on_ok (Ok x) P Q f p = f p
on_ok (Err e) P Q f p = tt

-- ---- calls that ask

pub asked_same : (asked : Call) → asks asked ≡ true → (start : RunStart) (r : Replay) → after_call start r asked ≡ r
asked_same (call.AddUri uris options position) is start r = absurd cc
asked_same (call.AddTorrent meta uris options position) is start r = absurd cc
asked_same (call.Remove key) is start r = absurd cc
asked_same (call.Pause key) is start r = absurd cc
asked_same (call.Unpause key) is start r = absurd cc
asked_same call.PauseAll is start r = absurd cc
asked_same call.UnpauseAll is start r = absurd cc
asked_same (call.ChangeOption key options) is start r = refl
asked_same (call.ChangeGlobalOption options) is start r = absurd cc
asked_same (call.TellStatus key) is start r = refl
asked_same call.TellActive is start r = refl
asked_same (call.TellWaiting offset num) is start r = refl
asked_same (call.TellStopped offset num) is start r = refl
asked_same (call.GetUris key) is start r = refl
asked_same (call.GetFiles key) is start r = refl
asked_same (call.GetOption key) is start r = refl
asked_same call.GetGlobalOption is start r = refl
asked_same call.GetGlobalStat is start r = refl
asked_same (call.ChangePosition key position how) is start r = absurd cc
asked_same call.Purge is start r = absurd cc
asked_same (call.RemoveResult key) is start r = absurd cc
asked_same call.GetVersion is start r = refl
asked_same call.Shutdown is start r = absurd cc

pub quiet_same : (e : Event) → is_quiet e ≡ true → (start : RunStart) (past : List Event)
    → replay_of start (e ∷ past) ≡ replay_of start past
quiet_same (Called session asked now) is start past = asked_same asked is start (replay_of start past)
quiet_same (Opened gid verified blocks now) is start past = refl
quiet_same (Sized gid id total) is start past = refl
quiet_same (Claimed gid claim) is start past = refl
quiet_same (Landed gid id mirror run now) is start past = refl
quiet_same (Settled gid piece right giver) is start past = refl
quiet_same (Cleared gid piece) is start past = refl
quiet_same (Lost gid id mirror piece mark) is start past = refl
quiet_same (Checked gid right) is start past = refl
quiet_same (Saved gid now) is start past = refl
quiet_same (Ended gid how) is start past = absurd cc
quiet_same Left is start past = refl
quiet_same Stopped is start past = refl

-- ---- plain calls

plain_follows : (asked : Call) (old new : QueueLists)
    → ((start : RunStart) (r : Replay) → r.queue ≡ old → ComesTo new r.shut r (after_call start r asked))
    → new.added ≡ old.added → FollowsPlain asked old new
plain_follows asked old new comes added start r global k =
    let c = comes start r (sym k.queue_is) in
    record {
      queue_is = sym c.queue_is;
      global_is = k.global_is ∙ sym c.global_is;
      shut_is = refl;
      added = ap (λ (q : QueueLists). q.added) c.queue_is
          ∙ (added ∙ (ap (λ (q : QueueLists). q.added) k.queue_is
          ∙ (k.added ∙ ap (λ (ds : List Download). map added_as ds) (sym c.downloads_is))));
    }

keyed_added : (old : QueueLists) (queue_call : Gid → QueueCall) (o : Option Gid)
    → ((gid : Gid) → (after old (queue_call gid)).added ≡ old.added) → (queue_keyed old queue_call o).added ≡ old.added
keyed_added old queue_call None none = refl
keyed_added old queue_call (Some gid) none = none gid

-- a call of the download that a key names
pub keyed_follows : (asked : Call) (queue_call : Gid → QueueCall) (key : GidKey) (old new : QueueLists)
    → ((start : RunStart) (r : Replay) → after_call start r asked ≡ with_keyed r key queue_call)
    → new ≡ queue_keyed old queue_call (keyed_gid old key)
    → ((gid : Gid) → (after old (queue_call gid)).added ≡ old.added) → FollowsPlain asked old new
keyed_follows asked queue_call key old new same is none =
    plain_follows asked old new
    (λ start r queue.
    subst (λ (x : Replay). ComesTo new r.shut r x) (sym (same start r))
    (comes_keyed r queue_call key old new r.shut queue refl is))
    (ap (λ (q : QueueLists). q.added) is ∙ keyed_added old queue_call (keyed_gid old key) none)

-- ---- a download is added

adding_taken : (o : Option QueueErr) (start : RunStart) (r : Replay) (asked : Call) (subject : Subject)
    (settings : List Assigned) (position : Option ℕ) (gids : ℕ) (old new : QueueLists) (global : OptionValues)
    → ((start : RunStart) (r : Replay) → after_call start r asked ≡ with_download start r subject settings position)
    → (a : IsQueueAddition gids global settings position old new)
    → start.gids ≡ gids → FollowsQueue r old global
    → refusal r.queue (add_call a.gid (with_settings global settings) position) ≡ o
    → FollowsQueue (after_call start r asked) new global
adding_taken None start r asked subject settings position gids old new global c a gids_is k is =
    let options = with_settings global settings in
    let qc = add_call a.gid options position in
    let made = a.made start r.downloads gids_is (ap (λ (q : QueueLists). q.added) k.queue_is ∙ k.added) in
    let d : Download = record { gid = a.gid; subject = subject; options = options } in
    let replay : after_call start r asked ≡ added_replay r subject position a.gid options =
    c start r
    ∙ (replay_is start r subject settings position a.gid global made k.global_is
    ∙ taken (is_refused r.queue qc) r (added_replay r subject position a.gid options) (ap is_some is)) in
    subst (λ (x : Replay). FollowsQueue x new global) (sym replay)
    (record {
      queue_is = a.queue ∙ ap (λ (q : QueueLists). after q qc) k.queue_is;
      global_is = k.global_is;
      shut_is = refl;
      added = ap (λ (q : QueueLists). q.added)
          (unless_none (refusal r.queue qc) (moved_up (effect r.queue qc)) r.queue is)
          ∙ (ap (λ (all : List Added). all ++ added_as d ∷ []) k.added ∙ sym (map-more r.downloads d));
    })
adding_taken (Some e) start r asked subject settings position gids old new global c a gids_is k is =
    let options = with_settings global settings in
    let qc = add_call a.gid options position in
    let made = a.made start r.downloads gids_is (ap (λ (q : QueueLists). q.added) k.queue_is ∙ k.added) in
    let replay : after_call start r asked ≡ r =
    c start r
    ∙ (replay_is start r subject settings position a.gid global made k.global_is
    ∙ refused (is_refused r.queue qc) r (added_replay r subject position a.gid options) (ap is_some is)) in
    subst (λ (x : Replay). FollowsQueue x new global) (sym replay)
    (record {
      queue_is = a.queue ∙ (ap (λ (q : QueueLists). after q qc) k.queue_is
          ∙ unless_some (refusal r.queue qc) e (moved_up (effect r.queue qc)) r.queue is);
      global_is = k.global_is;
      shut_is = refl;
      added = k.added;
    })

pub adding_follows : (asked actual : Call) (subject : Subject) (settings : List Assigned) (position : Option ℕ)
    (gids : ℕ) (old new : QueueLists) (global : OptionValues) → actual ≡ asked
    → ((start : RunStart) (r : Replay) → after_call start r asked ≡ with_download start r subject settings position)
    → IsQueueAddition gids global settings position old new
    → FollowsCall gids actual old new global global
adding_follows asked actual subject settings position gids old new global same c a start r gids_is k =
    subst (λ (x : Call). FollowsQueue (after_call start r x) new global) (sym same)
    (adding_taken (refusal r.queue (add_call a.gid (with_settings global settings) position)) start r asked subject settings
    position gids old new global c a gids_is k refl)
