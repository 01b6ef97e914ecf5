-- The calls that add a download.
use Rattle.std.proofs.Common.{◌≡◌, ℕ, Bool, true, false, cond, Option, Some, None, ◌+◌, ◌≤◌, List, [], ◌∷◌, ◌++◌, length, slice_get, refl, sym, ap, ◌∙◌, subst, arith}
use Rattle.std.specs.Prelude.{◌||◌, All, IfOk, Result, Ok, Err, box_value}
use Rattle.std.specs.Option.{is_some}
use Rattle.std.proofs.lemmas.List.Elements.{All-weaker}
use Rattle.dl_kinds.specs.declared.claims.TheConstants.{MAX_MIRRORS}
use Rattle.dl_kinds.specs.declared.gid.Gid.{Gid}
use Rattle.dl_kinds.specs.declared.runs.Moment.{Moment}
use Rattle.dl_queue.specs.Calls.{after, effect, refusal, unless_refused, was_added}
use Rattle.dl_queue.specs.Lists.{QueueLists}
use Rattle.dl_queue.specs.Rising.{moved_up}
use Rattle.dl_queue.specs.declared.kinds.QueueErr.{QueueErr}
use Rattle.link_source.specs.Endpoint.{IsUsable}
use Rattle.metainfo.specs.Info.{Info, IsSeed, IsSound, info_of}
use Rattle.metainfo.specs.Rules.{IsMetaOfSome}
use Rattle.metainfo.specs.declared.meta.Meta.{Meta}
use Rattle.option_set.specs.Values.{OptionValues}
use Rattle.option_set.specs.declared.setting.Assigned.{Assigned}
use Rattle.machine_core.specs.Answers.{adding_answer, applied_in, call_answer}
use Rattle.machine_core.specs.CallParts.{AreHaltedWhere, CallParts, HasMirrors, IsAddition, IsApplied, IsEntryAdded, IsNewEntry, KeepMarkRooms, add_call, called_state, leaves_active, with_call_parts}
use Rattle.machine_core.specs.Choices.{options_now}
use Rattle.machine_core.specs.LawfulCalls.{IsLawful, IsLawfulTorrent}
use Rattle.machine_core.specs.MachineParts.{KeepsQueue, KeepsRun, MachineState, kept_room, subject_of_call}
use Rattle.machine_core.specs.OwnParts.{halts_by, is_shutdown}
use Rattle.machine_core.specs.Replays.{Replay, after_call, has_active, is_refused, next_gid, replay_of, with_call, with_download, with_settings}
use Rattle.machine_core.specs.RunLegal.{MayFollow}
use Rattle.machine_core.specs.Starts.{RunStart, Download, Subject, Listed, Unlisted}
use Rattle.machine_core.specs.declared.applied.Applied.{Applied}
use Rattle.machine_core.specs.declared.applied.Applied.TheVariants.{Added}
use Rattle.machine_core.specs.declared.calls.Call.{Call}
use Rattle.machine_core.specs.declared.calls.Call.TheVariants as call
use Rattle.machine_core.specs.declared.entries.Entry.{Entry}
use Rattle.machine_core.specs.declared.events.Event.{Event}
use Rattle.machine_core.specs.declared.events.Event.TheVariants.{Called}
use Rattle.machine_core.proofs.CallHalts.{none_halts, stays_in}
use Rattle.machine_core.proofs.Called.{call_keeps}
use Rattle.machine_core.proofs.Homes.{place_none}
use Rattle.machine_core.proofs.Leaving.{StayActive, call_stays}
use Rattle.machine_core.proofs.Lists.{slice_get-more}
use Rattle.machine_core.proofs.NewDownloads.{grown_keeps}

-- a call that adds a download of this subject
pub record IsAddingCall (asked : Call) (subject : Subject) (settings : List Assigned) (position : Option ℕ) : Type 0
  where
    pub replay : (start : RunStart) (r : Replay)
        → after_call start r asked ≡ with_download start r subject settings position
    pub answer : (start : RunStart) (r : Replay)
        → applied_in start r asked ≡ adding_answer start r settings position
    pub subject_is : subject_of_call asked ≡ Some subject
    pub goes_on : is_shutdown asked ≡ false
    pub options : (start : RunStart) (past : List Event) (session : ℕ) (now : Moment) (d : Download)
        → options_now start (Called session asked now ∷ past) d ≡ options_now start past d

-- ---- the replay

abbrev pub added_replay : Replay → Subject → Option ℕ → Gid → OptionValues → Replay
added_replay r subject position gid options =
    record (with_call r (add_call gid options position)) {
      downloads = r.downloads ++ record { gid = gid; subject = subject; options = options } ∷ [];
    }

abbrev replay_with : Replay → Subject → Option ℕ → Gid → OptionValues → Replay
replay_with r subject position gid options =
    cond (is_refused r.queue (add_call gid options position)) r (added_replay r subject position gid options)

-- the gid and the options are those that the parts give
pub replay_is : (start : RunStart) (r : Replay) (subject : Subject) (settings : List Assigned) (position : Option ℕ)
    (gid : Gid) (global : OptionValues) → gid ≡ next_gid start r.downloads (with_settings global settings)
    → global ≡ r.global
    → with_download start r subject settings position
    ≡ replay_with r subject position gid (with_settings global settings)
replay_is start r subject settings position gid global made same =
    sym (ap (λ (g : Gid). replay_with r subject position g (with_settings global settings)) made
    ∙ ap (λ (v : OptionValues).
    replay_with r subject position (next_gid start r.downloads (with_settings v settings)) (with_settings v settings))
    same)

answer_is : (start : RunStart) (r : Replay) (settings : List Assigned) (position : Option ℕ) (gid : Gid)
    (global : OptionValues) (queue : QueueLists) → gid ≡ next_gid start r.downloads (with_settings global settings)
    → global ≡ r.global → queue ≡ r.queue
    → call_answer queue (add_call gid (with_settings global settings) position) (Added gid)
    ≡ adding_answer start r settings position
answer_is start r settings position gid global queue made same queue_is =
    ap (λ (q : QueueLists). call_answer q (add_call gid (with_settings global settings) position) (Added gid)) queue_is
    ∙ (ap (λ (g : Gid). call_answer r.queue (add_call g (with_settings global settings) position) (Added g)) made
    ∙ ap (λ (v : OptionValues).
    call_answer r.queue (add_call (next_gid start r.downloads (with_settings v settings)) (with_settings v settings) position)
    (Added (next_gid start r.downloads (with_settings v settings)))) same)

pub taken : (t : Bool) (r more : Replay) → t ≡ false → cond t r more ≡ more
taken true r more is = absurd cc
taken false r more is = refl

pub refused : (t : Bool) (r more : Replay) → t ≡ true → cond t r more ≡ r
refused true r more is = refl
refused false r more is = absurd cc

-- ---- the queue

pub unless_none : (o : Option QueueErr) (changed same : QueueLists) → o ≡ None → unless_refused o changed same ≡ changed
unless_none None changed same is = refl
unless_none (Some e) changed same is = absurd cc

pub unless_some : (o : Option QueueErr) (e : QueueErr) (changed same : QueueLists) → o ≡ Some e
    → unless_refused o changed same ≡ same
unless_some None e changed same is = absurd cc
unless_some (Some x) e changed same is = refl

pub not_known : (t : Bool) (e : QueueErr) (rest : Option QueueErr) → cond t (Some e) rest ≡ None → t ≡ false
not_known true e rest is = absurd cc
not_known false e rest is = refl

pub no_place : (t : Bool) (n : ℕ) → t ≡ false → cond t (Some n) None ≡ None
no_place true n is = absurd cc
no_place false n is = refl

adding_stays : (old new : QueueLists) (gid : Gid) (options : OptionValues) (position : Option ℕ)
    → new ≡ after old (add_call gid options position) → StayActive old new
adding_stays old new gid options position is =
    subst (λ (q : QueueLists). StayActive old q) (sym is) (call_stays old (add_call gid options position) refl)

shut_or : (shut rest : Bool) → shut ≡ false → rest ≡ false → (shut || rest) ≡ false
shut_or shut rest p q = rw (p, q) refl

still : (start : RunStart) (past : List Event) (session : ℕ) (asked : Call) (now : Moment) (old new : QueueLists)
    → is_shutdown asked ≡ false → old ≡ (replay_of start past).queue
    → (after_call start (replay_of start past) asked).queue ≡ new → StayActive old new
    → (gid : Gid) → halts_by start past (Called session asked now) asked gid ≡ false
still start past session asked now old new goes_on old_is new_is stay gid =
    let r = replay_of start past in
    shut_or (is_shutdown asked) (leaves_active r.queue (after_call start r asked).queue gid) goes_on
    (stays_in r.queue (after_call start r asked).queue gid
    (subst (λ (q : QueueLists). has_active q gid ≡ true → has_active (after_call start r asked).queue gid ≡ true) old_is
    (subst (λ (q : QueueLists). has_active old gid ≡ true → has_active q gid ≡ true) (sym new_is) (stay gid))))

-- ---- it is added, or refused

abbrev Follows : Call → CallParts → CallParts → Type 0
Follows asked old new =
    (past : List Event) (s : MachineState) (session : ℕ) (now : Moment) (room : ℕ)
    → KeepsRun past (with_call_parts s old) → MayFollow s.start past (Called session asked now)
    → kept_room s.start.doors s.left s.stopped ≤ room
    → KeepsRun (Called session asked now ∷ past) (called_state s (Called session asked now) room new)

keeps_by : (asked : Call) (subject : Subject) (settings : List Assigned) (position : Option ℕ) (gids place : ℕ)
    (old new : CallParts) (applied : Applied) → IsAddingCall asked subject settings position
    → new.global ≡ old.global → new.shut ≡ old.shut
    → (a : IsAddition gids place old.global subject settings position old.queue new.queue old.entries new.entries applied)
    → (past : List Event) (s : MachineState) (session : ℕ) (now : Moment) (room : ℕ)
    → s.start.gids ≡ gids → length s.events ≡ place
    → KeepsRun past (with_call_parts s old) → MayFollow s.start past (Called session asked now)
    → kept_room s.start.doors s.left s.stopped ≤ room → (o : Option QueueErr)
    → refusal old.queue (add_call a.gid (with_settings old.global settings) position) ≡ o
    → IsEntryAdded o (record { gid = a.gid; subject = subject; options = with_settings old.global settings }) place old.entries new.entries
    → KeepsRun (Called session asked now ∷ past) (called_state s (Called session asked now) room new)
keeps_by asked subject settings position gids place old new applied c global shut a past s session now room gids_is place_is k may room_is None is entries =
    let r = replay_of s.start past in
    let options = with_settings old.global settings in
    let qc = add_call a.gid options position in
    let d : Download = record { gid = a.gid; subject = subject; options = options } in
    let known = ap (λ (q : QueueLists). q.added) k.queue.queue_is ∙ k.queue.added in
    let made = a.made s.start r.downloads gids_is known in
    let is_new : is_refused r.queue qc ≡ false =
    ap (λ (q : QueueLists). is_refused q qc) (sym k.queue.queue_is) ∙ ap is_some is in
    let replay : after_call s.start r asked ≡ added_replay r subject position a.gid options =
    c.replay s.start r
    ∙ (replay_is s.start r subject settings position a.gid old.global made k.queue.global_is
    ∙ taken (is_refused r.queue qc) r (added_replay r subject position a.gid options) is_new) in
    let queue_is : (after_call s.start r asked).queue ≡ new.queue =
    ap (λ (x : Replay). x.queue) replay
    ∙ (ap (λ (q : QueueLists). after q qc) (sym k.queue.queue_is) ∙ sym a.queue) in
    let fresh : was_added old.queue.added a.gid ≡ false = not_known (was_added old.queue.added a.gid) _ _ is in
    grown_keeps past (with_call_parts s old) session asked now room new d entries.0 k may
    (record {
      queue_is = queue_is;
      downloads_is = ap (λ (x : Replay). x.downloads) replay;
      global_is = ap (λ (x : Replay). x.global) replay;
      shut_is = ap (λ (x : Replay). x.shut) replay;
    })
    global shut
    (ap (λ (q : QueueLists). q.added) (a.queue ∙ unless_none (refusal old.queue qc) (moved_up (effect old.queue qc)) old.queue is))
    entries.1
    (subst (λ (n : ℕ). IsNewEntry d n entries.0) (sym place_is) entries.2)
    (place_none a.gid r.downloads old.queue.added known (no_place (was_added old.queue.added a.gid) _ fresh))
    c.subject_is
    (still s.start past session asked now old.queue new.queue c.goes_on k.queue.queue_is queue_is
    (adding_stays old.queue new.queue a.gid options position a.queue))
    (λ b. c.options s.start past session now b) room_is
keeps_by asked subject settings position gids place old new applied c global shut a past s session now room gids_is place_is k may room_is (Some e) is entries =
    let r = replay_of s.start past in
    let options = with_settings old.global settings in
    let qc = add_call a.gid options position in
    let known = ap (λ (q : QueueLists). q.added) k.queue.queue_is ∙ k.queue.added in
    let made = a.made s.start r.downloads gids_is known in
    let is_old : is_refused r.queue qc ≡ true =
    ap (λ (q : QueueLists). is_refused q qc) (sym k.queue.queue_is) ∙ ap is_some is in
    let replay : after_call s.start r asked ≡ r =
    c.replay s.start r
    ∙ (replay_is s.start r subject settings position a.gid old.global made k.queue.global_is
    ∙ refused (is_refused r.queue qc) r (added_replay r subject position a.gid options) is_old) in
    let same : new.queue ≡ old.queue =
    a.queue ∙ unless_some (refusal old.queue qc) e (moved_up (effect old.queue qc)) old.queue is in
    let queue_is : (after_call s.start r asked).queue ≡ new.queue =
    ap (λ (x : Replay). x.queue) replay ∙ (sym k.queue.queue_is ∙ sym same) in
    call_keeps past (with_call_parts s old) session asked now room new k may
    (subst (λ (x : Replay). KeepsQueue x new.queue new.global new.shut) (sym replay)
    (record {
      queue_is = same ∙ k.queue.queue_is;
      global_is = global ∙ k.queue.global_is;
      shut_is = shut ∙ k.queue.shut_is;
      added = k.queue.added;
    }))
    (ap (λ (x : Replay). x.downloads) replay)
    (λ b. c.options s.start past session now b)
    (subst
    (λ (xs : List Entry). AreHaltedWhere (λ gid. halts_by s.start past (Called session asked now) asked gid) old.entries xs)
    (sym entries)
    (none_halts (length old.entries) (λ gid. halts_by s.start past (Called session asked now) asked gid) old.entries
    (λ i x below there.
    still s.start past session asked now old.queue new.queue c.goes_on k.queue.queue_is queue_is
    (adding_stays old.queue new.queue a.gid options position a.queue) x.gid)))
    room_is

rooms_by : (o : Option QueueErr) (d : Download) (place : ℕ) (xs ys : List Entry) → IsEntryAdded o d place xs ys
    → KeepMarkRooms xs ys
rooms_by None d place xs ys entries i was there =
    (was, ap (λ (zs : List Entry). slice_get zs i) entries.1 ∙ slice_get-more xs (entries.0 ∷ []) i was there, omega arith)
rooms_by (Some e) d place xs ys entries i was there =
    (was, ap (λ (zs : List Entry). slice_get zs i) entries ∙ there, omega arith)

pub adding_applied : (asked : Call) (subject : Subject) (settings : List Assigned) (position : Option ℕ)
    (gids place : ℕ) (old new : CallParts) (applied : Applied) → IsAddingCall asked subject settings position
    → new.global ≡ old.global → new.shut ≡ old.shut
    → IsAddition gids place old.global subject settings position old.queue new.queue old.entries new.entries applied
    → IsApplied asked gids place old new applied
adding_applied asked subject settings position gids place old new applied c global shut a =
    let qc = add_call a.gid (with_settings old.global settings) position in
    record {
      keeps = λ past s session now room gids_is place_is k may room_is.
          keeps_by asked subject settings position gids place old new applied c global shut a past s session now room
          gids_is place_is k may room_is (refusal old.queue qc) refl a.entries;
      answer = λ past s gids_is k.
          let r = replay_of s.start past in
          let known = ap (λ (q : QueueLists). q.added) k.queue.queue_is ∙ k.queue.added in
          a.answer
          ∙ (answer_is s.start r settings position a.gid old.global old.queue (a.made s.start r.downloads gids_is known)
          k.queue.global_is k.queue.queue_is ∙ sym (c.answer s.start r));
      rooms = rooms_by (refusal old.queue qc) _ place old.entries new.entries a.entries;
    }

-- ---- the two calls

pub adding_uri : (uris : List (List ℕ)) (settings : List Assigned) (position : Option ℕ)
    → IsAddingCall (call.AddUri uris settings position) (Unlisted uris) settings position
adding_uri uris settings position =
    record {
      replay = λ start r. refl;
      answer = λ start r. refl;
      subject_is = refl;
      goes_on = refl;
      options = λ start past session now d. refl;
    }

pub uri_mirrors : (seeds uris : List (List ℕ)) → seeds ≡ [] → HasMirrors (Unlisted uris) seeds uris
uri_mirrors seeds uris none =
    subst (λ (urls : List (List ℕ)). HasMirrors (Unlisted uris) urls uris) (sym none)
    (record { urls = refl; many = omega arith })

pub torrent_mirrors : (meta : Meta) (uris : List (List ℕ)) → HasMirrors (Listed meta uris) meta.seeds uris
torrent_mirrors meta uris = record { urls = refl; many = refl }

-- the URLs of a lawful call can be asked
pub record CanAsk (seeds uris : List (List ℕ)) : Type 0 where
  pub seeds_are : All IsUsable seeds
  pub uris_are : All IsUsable uris
  pub few : length seeds + length uris ≤ MAX_MIRRORS

-- a call with a metainfo file adds a download of it, and its URLs can be asked
abbrev pub IsTorrentCall : Call → Type 0
IsTorrentCall (call.AddTorrent meta uris settings position) =
    IsAddingCall (call.AddTorrent meta uris settings position) (Listed (box_value meta) uris) settings position
    × (IsLawful (call.AddTorrent meta uris settings position) → CanAsk (box_value meta).seeds uris)
IsTorrentCall asked = Unit {0}

torrent_asks : ((said : Info) → IsMetaOfSome said → IsSound said) → (meta : Meta) (uris : List (List ℕ))
    (settings : List Assigned) → IsLawfulTorrent meta uris settings → CanAsk meta.seeds uris
torrent_asks sound meta uris settings law =
    let s = sound (info_of meta) law.said in
    record {
      seeds_are = All-weaker IsSeed IsUsable (λ url seed. seed.1) meta.seeds s.seeds;
      uris_are = law.mirrors.usable;
      few = law.mirrors.few;
    }

pub torrent_call : ((said : Info) → IsMetaOfSome said → IsSound said) → (asked : Call) → IsTorrentCall asked
torrent_call sound (call.AddTorrent meta uris settings position) = (
  record {
    replay = λ start r. refl;
    answer = λ start r. refl;
    subject_is = refl;
    goes_on = refl;
    options = λ start past session now d. refl;
  },
  λ lawful. torrent_asks sound (box_value meta) uris settings lawful,
)
torrent_call sound asked = tt

-- the answer of a call that adds a download, where there is one
pub adding_ok : {E : Type 0} (r : Result Applied E) (asked : Call) (actual : Call) (subject : Subject)
    (settings : List Assigned) (position : Option ℕ) (gids place : ℕ) (old new : CallParts) → actual ≡ asked
    → IsAddingCall asked subject settings position → new.global ≡ old.global → new.shut ≡ old.shut
    → IfOk r (IsAddition gids place old.global subject settings position old.queue new.queue old.entries new.entries)
    → IfOk r (IsApplied actual gids place old new)
adding_ok (Ok a) asked actual subject settings position gids place old new is c global shut added =
    subst (λ (x : Call). IsApplied x gids place old new a) (sym is)
    (adding_applied asked subject settings position gids place old new a c global shut added)
adding_ok (Err e) asked actual subject settings position gids place old new is c global shut added = tt
