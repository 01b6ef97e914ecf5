-- A download that is added.
use Rattle.std.proofs.Common.{◌≡◌, ◌≢◌, ◌⊎◌, ℕ, zero, suc, Bool, true, false, cond, Option, Some, None, ◌+◌, ◌<◌, ◌≤◌, List, [], ◌∷◌, ◌++◌, length, slice_get, refl, sym, ap, ◌∙◌, subst, inl, inr, ⊎_elim, arith}
use Rattle.std.specs.Prelude.{All, Contains, map}
use Rattle.std.specs.Option.{is_some, option_and_then, unwrap_or}
use Rattle.std.proofs.lemmas.Bool.{eq-eqb}
use Rattle.std.proofs.lemmas.List.{length-append}
use Rattle.std.proofs.lemmas.List.Elements.{All-nil}
use Rattle.std.proofs.lemmas.Option.{get_or_from_slice_get, same_Some, slice_get_within}
use Rattle.dl_kinds.specs.declared.claims.Claim.{Claim}
use Rattle.dl_kinds.specs.declared.gid.Gid.{Gid}
use Rattle.dl_kinds.specs.declared.runs.Moment.{Moment}
use Rattle.dl_history.specs.Accounts.{account_of, after_halt, new_account}
use Rattle.dl_history.specs.OwnEvents.{OwnEvent, Halts}
use Rattle.dl_history.specs.PayloadParts.{blames_in, is_opened, told_total}
use Rattle.dl_history.specs.StandingClaims.{granted_claims}
use Rattle.dl_queue.specs.Lists.{QueueLists}
use Rattle.dl_queue.specs.declared.kinds.Added.{Added}
use Rattle.mirror_blame.specs.Marks.{counted}
use Rattle.mirror_blame.specs.declared.blame.Blame.{Blame}
use Rattle.option_set.specs.Values.{OptionValues}
use Rattle.machine_core.specs.CallParts.{CallParts, IsNewEntry, called_state}
use Rattle.machine_core.specs.Choices.{is_keyed, options_now}
use Rattle.machine_core.specs.MachineParts.{AreAddedAt, HaveOwnGids, KeepsDownload, KeepsRun, MachineState, added_as, kept_room, subject_of_call, subject_of_event}
use Rattle.machine_core.specs.OwnParts.{PayloadLengths, halted_where, halts_by, lengths_by, no_lengths, own_of}
use Rattle.machine_core.specs.Replays.{Replay, after_call, download_of, is_download, is_same_gid, keyed_gid, queue_in, replay_of, with_settings}
use Rattle.machine_core.specs.RunLegal.{IsLegal, MayFollow, known_lengths, mirrors_by, tries_in}
use Rattle.machine_core.specs.Starts.{RunStart, Download}
use Rattle.machine_core.specs.declared.calls.Call.{Call}
use Rattle.machine_core.specs.declared.calls.Call.TheVariants as call
use Rattle.machine_core.specs.declared.entries.Entry.{Entry}
use Rattle.machine_core.specs.declared.events.Event.{Event}
use Rattle.machine_core.specs.declared.events.Event.TheVariants.{Called, Opened, Sized, Claimed, Landed, Settled, Cleared, Lost, Checked, Saved, Ended, Left, Stopped}
use Rattle.machine_core.proofs.Lists.{element_at, not_found, read-more, slice_get-more}
use Rattle.machine_core.proofs.Parts.{Adds, call_adds, gid_is, lengths_in, lengths_same, stays_added}
use Rattle.machine_core.proofs.QueuedGids.{IsAdded, named_is, queued_are_added}
use Rattle.machine_core.proofs.Steps.{homes_stay, untouched}
use Rattle.machine_core.proofs.Logged.{logged_on}

-- ---- before it is added it has no events but halts

pub record IsBare (own : List OwnEvent) : Type 0 where
  pub account : (total len : ℕ) → account_of total len own ≡ new_account
  pub granted : granted_claims own ≡ []
  pub blames : blames_in own ≡ []
  pub closed : is_opened own ≡ false

halt_bare : (own : List OwnEvent) → IsBare own → IsBare (Halts false ∷ own)
halt_bare own k =
    record {
      account = λ total len. ap (λ a. after_halt a false) (k.account total len);
      granted = k.granted;
      blames = k.blames;
      closed = k.closed;
    }

bare_where : (t : Bool) (own : List OwnEvent) → IsBare own → IsBare (halted_where t own)
bare_where true own k = halt_bare own k
bare_where false own k = k

-- not one of another download
other_bare : (downloads : List Download) (gid other : Gid) (d : Download) (o : OwnEvent) (own : List OwnEvent)
    → download_of downloads gid ≡ None → download_of downloads other ≡ Some d → IsBare own
    → (t : Bool) → is_same_gid gid other ≡ t → IsBare (cond t (o ∷ own) own)
other_bare downloads gid other d o own none some k true same =
    absurd (let h : download_of downloads gid ≡ Some d =
    ap (download_of downloads) (sym (gid_is gid other same)) ∙ some in
    let clash : None ≡ Some d = sym none ∙ h in cc)
other_bare downloads gid other d o own none some k false same = k

was_none : (old new : List Download) (gid : Gid) → Adds old new → (o : Option Download) → download_of old gid ≡ o
    → download_of new gid ≡ None → download_of old gid ≡ None
was_none old new gid adds None is none = is
was_none old new gid adds (Some d) is none =
    absurd (let h : None ≡ Some d = sym none ∙ (stays_added gid old new adds (ap is_some is) ∙ is) in cc)

pub bare_own : (start : RunStart) (past : List Event) (gid : Gid) → IsLegal start past
    → download_of (replay_of start past).downloads gid ≡ None → IsBare (own_of start past gid)
bare_own start [] gid legal none =
    record { account = λ total len. refl; granted = refl; blames = refl; closed = refl }
bare_own start (Called session asked now ∷ past) gid legal none =
    let r = replay_of start past in
    bare_where (halts_by start past (Called session asked now) asked gid) (own_of start past gid)
    (bare_own start past gid legal.0
    (was_none r.downloads (after_call start r asked).downloads gid (call_adds start r asked)
    (download_of r.downloads gid) refl none))
bare_own start (Opened other verified blocks now ∷ past) gid legal none =
    other_bare (replay_of start past).downloads gid other legal.1.download _ (own_of start past gid) none legal.1.added
    (bare_own start past gid legal.0 none) (is_same_gid gid other) refl
bare_own start (Sized other id total ∷ past) gid legal none =
    other_bare (replay_of start past).downloads gid other legal.1.download _ (own_of start past gid) none legal.1.added
    (bare_own start past gid legal.0 none) (is_same_gid gid other) refl
bare_own start (Claimed other claim ∷ past) gid legal none =
    other_bare (replay_of start past).downloads gid other legal.1.download _ (own_of start past gid) none legal.1.added
    (bare_own start past gid legal.0 none) (is_same_gid gid other) refl
bare_own start (Landed other id mirror run now ∷ past) gid legal none =
    other_bare (replay_of start past).downloads gid other legal.1.0.download _ (own_of start past gid) none
    legal.1.0.added (bare_own start past gid legal.0 none) (is_same_gid gid other) refl
bare_own start (Settled other piece right giver ∷ past) gid legal none =
    other_bare (replay_of start past).downloads gid other legal.1.own.download _ (own_of start past gid) none
    legal.1.own.added (bare_own start past gid legal.0 none) (is_same_gid gid other) refl
bare_own start (Cleared other piece ∷ past) gid legal none =
    other_bare (replay_of start past).downloads gid other legal.1.own.download _ (own_of start past gid) none
    legal.1.own.added (bare_own start past gid legal.0 none) (is_same_gid gid other) refl
bare_own start (Lost other id mirror piece mark ∷ past) gid legal none =
    other_bare (replay_of start past).downloads gid other legal.1.download _ (own_of start past gid) none legal.1.added
    (bare_own start past gid legal.0 none) (is_same_gid gid other) refl
bare_own start (Checked other right ∷ past) gid legal none =
    other_bare (replay_of start past).downloads gid other legal.1.own.download _ (own_of start past gid) none
    legal.1.own.added (bare_own start past gid legal.0 none) (is_same_gid gid other) refl
bare_own start (Saved other now ∷ past) gid legal none =
    other_bare (replay_of start past).downloads gid other legal.1.0.download _ (own_of start past gid) none
    legal.1.0.added (bare_own start past gid legal.0 none) (is_same_gid gid other) refl
bare_own start (Ended other how ∷ past) gid legal none =
    other_bare (replay_of start past).downloads gid other legal.1.own.download _ (own_of start past gid) none
    legal.1.own.added (bare_own start past gid legal.0 none) (is_same_gid gid other) refl
bare_own start (Left ∷ past) gid legal none = bare_own start past gid legal.0 none
bare_own start (Stopped ∷ past) gid legal none =
    halt_bare (own_of start past gid) (bare_own start past gid legal.0 none)

-- ---- and no call changed its options

not_keyed : (downloads : List Download) (o : Option Gid) (gid : Gid)
    → ((keyed : Gid) → o ≡ Some keyed → IsAdded downloads keyed) → download_of downloads gid ≡ None
    → (t : Bool) → is_keyed o gid ≡ t → t ≡ false
not_keyed downloads o gid added none false is = refl
not_keyed downloads None gid added none true is = absurd (let s = is in cc)
not_keyed downloads (Some keyed) gid added none true is =
    absurd (let h : IsAdded downloads gid =
    subst (λ (g : Gid). IsAdded downloads g) (gid_is gid keyed is) (added keyed refl) in
    let n : is_some (download_of downloads gid) ≡ false = ap is_some none in cc)

set_where : (t : Bool) (set v : OptionValues) → t ≡ false → cond t set v ≡ v
set_where true set v is = absurd cc
set_where false set v is = refl

called_options : (start : RunStart) (past : List Event) (session : ℕ) (asked : Call) (now : Moment) (d : Download)
    → IsLegal start past → download_of (replay_of start past).downloads d.gid ≡ None
    → options_now start (Called session asked now ∷ past) d ≡ options_now start past d
called_options start past session (call.ChangeOption key options) now d legal none =
    set_where (is_keyed (keyed_gid (queue_in start past) key) d.gid)
    (with_settings (options_now start past d) options) (options_now start past d)
    (not_keyed (replay_of start past).downloads (keyed_gid (queue_in start past) key) d.gid
    (λ keyed is.
    named_is (IsAdded (replay_of start past).downloads) (queue_in start past) key keyed
    (queued_are_added start past legal) is)
    none _ refl)
called_options start past session other now d legal none = refl

pub fresh_options : (start : RunStart) (past : List Event) (d : Download) → IsLegal start past
    → download_of (replay_of start past).downloads d.gid ≡ None → options_now start past d ≡ d.options
fresh_options start [] d legal none = refl
fresh_options start (Called session asked now ∷ past) d legal none =
    let r = replay_of start past in
    let before =
    was_none r.downloads (after_call start r asked).downloads d.gid (call_adds start r asked)
    (download_of r.downloads d.gid) refl none in
    called_options start past session asked now d legal.0 before ∙ fresh_options start past d legal.0 before
fresh_options start (e ∷ past) d legal none = fresh_options start past d legal.0 none

-- ---- what is kept of it

new_keeps : (own : List OwnEvent) (l : PayloadLengths) (v : OptionValues) (d : Download) (place : ℕ) (x : Entry)
    → IsBare own → v ≡ d.options → IsNewEntry d place x → KeepsDownload own l v d x
new_keeps own l v d place x bare options n =
    record {
      gid = n.gid;
      options_are = n.options ∙ sym options;
      account = n.account ∙ sym (bare.account l.total l.piece_len);
      marks = n.marks ∙ ap (λ (bs : List Blame). counted (tries_in d) bs) (sym bare.blames);
      mirrors = n.mirrors;
      max_tries = n.max_tries;
      hosts = n.hosts;
      wanted = λ opened. absurd (let o = opened in let c = bare.closed in cc);
      known = subst (λ (cs : List Claim). All (λ (c : Claim). c.mirror < mirrors_by d.subject) cs) (sym bare.granted)
          (All-nil (λ (c : Claim). c.mirror < mirrors_by d.subject));
    }

-- ---- lists with one more at the end

abbrev IsLast : {A : Type 0} → List A → A → ℕ → A → Type 0
IsLast xs x i y = (slice_get xs i ≡ Some y) ⊎ ((i ≡ length xs) × (y ≡ x))

last_cases : {A : Type 0} (xs : List A) (x : A) (i : ℕ) (y : A) → slice_get (xs ++ x ∷ []) i ≡ Some y → IsLast xs x i y
last_cases [] x zero y is = inr (refl, sym (same_Some x y is))
last_cases [] x (suc i) y is = absurd (let s = is in cc)
last_cases (z ∷ xs) x zero y is = inl is
last_cases (z ∷ xs) x (suc i) y is =
    ⊎_elim (λ (there : slice_get xs i ≡ Some y). inl there)
    (λ (last : (i ≡ length xs) × (y ≡ x)). inr (ap suc last.0, last.1)) (last_cases xs x i y is)

pub at_end : {A : Type 0} (xs : List A) (x : A) → slice_get (xs ++ x ∷ []) (length xs) ≡ Some x
at_end [] x = refl
at_end (z ∷ xs) x = at_end xs x

none_there : (ds : List Download) (gid : Gid) (i : ℕ) (d : Download) → download_of ds gid ≡ None
    → slice_get ds i ≡ Some d → d.gid ≢ gid
none_there ds gid i d none there is =
    let has : Contains ds d = (i, slice_get_within ds i d there, get_or_from_slice_get ds i d d there) in
    let no : is_same_gid gid d.gid ≡ false = not_found (is_download gid) ds d none has in
    let yes : is_same_gid gid d.gid ≡ true = eq-eqb d.gid.0 gid.0 (ap (λ (g : Gid). g.0) is) in
    cc

apart_more : (ds : List Download) (d : Download) → HaveOwnGids ds → download_of ds d.gid ≡ None
    → HaveOwnGids (ds ++ d ∷ [])
apart_more ds d apart none i j one other first second same =
    ⊎_elim
    (λ (a : slice_get ds i ≡ Some one).
    ⊎_elim (λ (b : slice_get ds j ≡ Some other). apart i j one other a b same)
    (λ (b : (j ≡ length ds) × (other ≡ d)).
    absurd (none_there ds d.gid i one none a (same ∙ ap (λ (x : Download). x.gid) b.1)))
    (last_cases ds d j other second))
    (λ (a : (i ≡ length ds) × (one ≡ d)).
    ⊎_elim
    (λ (b : slice_get ds j ≡ Some other).
    absurd (none_there ds d.gid j other none b (sym same ∙ ap (λ (x : Download). x.gid) a.1)))
    (λ (b : (j ≡ length ds) × (other ≡ d)). a.0 ∙ sym b.0)
    (last_cases ds d j other second))
    (last_cases ds d i one first)

-- ---- the run after it was added

pub map-more : (ds : List Download) (d : Download) → map added_as (ds ++ d ∷ []) ≡ map added_as ds ++ added_as d ∷ []
map-more [] d = refl
map-more (b ∷ ds) d = ap (λ (all : List Added). added_as b ∷ all) (map-more ds d)

there_where : (ds : List Download) (b : Download) (i : ℕ) → slice_get ds i ≡ Some b → (o : Option Download)
    → download_of ds b.gid ≡ o → is_some o ≡ true
there_where ds b i there None is = absurd (none_there ds b.gid i b is there refl)
there_where ds b i there (Some d) is = refl

pub there_is : (ds : List Download) (i : ℕ) (b : Download) → slice_get ds i ≡ Some b → is_some (download_of ds b.gid) ≡ true
there_is ds i b there = there_where ds b i there (download_of ds b.gid) refl

lengths_more : (old new : List Download) (gid : Gid) (own own' : List OwnEvent) → Adds old new
    → is_some (download_of old gid) ≡ true → told_total own' ≡ told_total own
    → lengths_in new gid own' ≡ lengths_in old gid own
lengths_more old new gid own own' adds is told =
    lengths_same new gid own own' told
    ∙ ap (λ (o : Option Download). unwrap_or (option_and_then (λ (d : Download). lengths_by d d.subject own) o) no_lengths)
    (stays_added gid old new adds is)

-- the replay goes on with the download
pub record AddsOne (r r' : Replay) (d : Download) (queue : QueueLists) : Type 0 where
  pub queue_is : r'.queue ≡ queue
  pub downloads_is : r'.downloads ≡ r.downloads ++ d ∷ []
  pub global_is : r'.global ≡ r.global
  pub shut_is : r'.shut ≡ r.shut

grown_at : (events : List Event) (e : Event) (ds : List Download) (d : Download) (xs : List Entry) (x : Entry)
    → length xs ≡ length ds → AreAddedAt events ds xs → x.called ≡ length events
    → subject_of_event e ≡ Some d.subject → AreAddedAt (events ++ e ∷ []) (ds ++ d ∷ []) (xs ++ x ∷ [])
grown_at events e ds d xs x many k called subject i b y added there =
    ⊎_elim
    (λ (old : slice_get ds i ≡ Some b).
    let w = slice_get_within ds i b old in
    let z = element_at xs i (omega arith) in
    let same : z.0 ≡ y = same_Some z.0 y (sym (slice_get-more xs (x ∷ []) i z.0 z.1) ∙ there) in
    subst (λ (c : Entry). option_and_then subject_of_event (slice_get (events ++ e ∷ []) c.called) ≡ Some b.subject) same
    (read-more subject_of_event events (e ∷ []) z.0.called b.subject (k i b z.0 old z.1)))
    (λ (last : (i ≡ length ds) × (b ≡ d)).
    let at : i ≡ length xs = last.0 ∙ sym many in
    let same : x ≡ y = same_Some x y (sym (at_end xs x) ∙ (ap (slice_get (xs ++ x ∷ [])) (sym at) ∙ there)) in
    ap (λ (c : Entry). option_and_then subject_of_event (slice_get (events ++ e ∷ []) c.called)) (sym same)
    ∙ (ap (λ (n : ℕ). option_and_then subject_of_event (slice_get (events ++ e ∷ []) n)) called
    ∙ (ap (option_and_then subject_of_event) (at_end events e)
    ∙ (subject ∙ ap (λ (c : Download). Some c.subject) (sym last.1)))))
    (last_cases ds d i b added)

pub grown_keeps : (past : List Event) (s : MachineState) (session : ℕ) (asked : Call) (now : Moment) (room : ℕ)
    (new : CallParts) (d : Download) (x : Entry) → KeepsRun past s → MayFollow s.start past (Called session asked now)
    → AddsOne (replay_of s.start past) (after_call s.start (replay_of s.start past) asked) d new.queue
    → new.global ≡ s.global → new.shut ≡ s.shut → new.queue.added ≡ s.queue.added ++ added_as d ∷ []
    → new.entries ≡ s.entries ++ x ∷ [] → IsNewEntry d (length s.events) x
    → download_of (replay_of s.start past).downloads d.gid ≡ None → subject_of_call asked ≡ Some d.subject
    → ((gid : Gid) → halts_by s.start past (Called session asked now) asked gid ≡ false)
    → ((b : Download) → options_now s.start (Called session asked now ∷ past) b ≡ options_now s.start past b)
    → kept_room s.start.doors s.left s.stopped ≤ room
    → KeepsRun (Called session asked now ∷ past) (called_state s (Called session asked now) room new)
grown_keeps past s session asked now room new d x k may one global shut added entries n none subject still options room_is =
    let e = Called session asked now in
    let r = replay_of s.start past in
    let ds = r.downloads in
    let own_same : (gid : Gid) → own_of s.start (e ∷ past) gid ≡ own_of s.start past gid =
    λ gid. ap (λ (t : Bool). halted_where t (own_of s.start past gid)) (still gid) in
    let adds : Adds ds (after_call s.start r asked).downloads = inr (d, one.downloads_is) in
    record {
      legal = (k.legal, may);
      queue = record {
        queue_is = sym one.queue_is;
        global_is = global ∙ (k.queue.global_is ∙ sym one.global_is);
        shut_is = shut ∙ (k.queue.shut_is ∙ sym one.shut_is);
        added = ap (λ (q : QueueLists). q.added) one.queue_is
            ∙ (added ∙ (ap (λ (all : List Added). all ++ added_as d ∷ [])
            (ap (λ (q : QueueLists). q.added) k.queue.queue_is ∙ k.queue.added)
            ∙ (sym (map-more ds d) ∙ ap (λ (bs : List Download). map added_as bs) (sym one.downloads_is))));
      };
      downloads = record {
        many = ap (λ (xs : List Entry). length xs) entries
            ∙ (length-append s.entries (x ∷ []) ∙ (ap (λ (i : ℕ). i + 1) k.downloads.many
            ∙ (sym (length-append ds (d ∷ []))
            ∙ ap (λ (bs : List Download). length bs) (sym one.downloads_is))));
        each = λ i b y is_added there.
            ⊎_elim
            (λ (old : slice_get ds i ≡ Some b).
            let w = slice_get_within ds i b old in
            let m = k.downloads.many in
            let z = element_at s.entries i (omega arith) in
            let same : z.0 ≡ y =
            same_Some z.0 y
            (sym (slice_get-more s.entries (x ∷ []) i z.0 z.1)
            ∙ (ap (λ (xs : List Entry). slice_get xs i) (sym entries) ∙ there)) in
            let kept = k.downloads.each i b z.0 old z.1 in
            let known : is_some (download_of ds b.gid) ≡ true = there_is ds i b old in
            untouched (own_of s.start past b.gid) (own_of s.start (e ∷ past) b.gid) (known_lengths s.start past b.gid)
            (known_lengths s.start (e ∷ past) b.gid) (options_now s.start past b) (options_now s.start (e ∷ past) b) b y
            (own_same b.gid)
            (lengths_more ds (after_call s.start r asked).downloads b.gid (own_of s.start past b.gid)
            (own_of s.start (e ∷ past) b.gid) adds known (ap told_total (own_same b.gid)))
            (options b)
            (subst (λ (c : Entry). KeepsDownload (own_of s.start past b.gid) (known_lengths s.start past b.gid)
            (options_now s.start past b) b c) same kept))
            (λ (last : (i ≡ length ds) × (b ≡ d)).
            let at : i ≡ length s.entries = last.0 ∙ sym k.downloads.many in
            let same : x ≡ y =
            same_Some x y
            (sym (at_end s.entries x)
            ∙ (ap (slice_get (s.entries ++ x ∷ [])) (sym at)
            ∙ (ap (λ (xs : List Entry). slice_get xs i) (sym entries) ∙ there))) in
            subst (λ (c : Download). KeepsDownload (own_of s.start (e ∷ past) c.gid) (known_lengths s.start (e ∷ past) c.gid)
            (options_now s.start (e ∷ past) c) c y) (sym last.1)
            (subst (λ (c : Entry). KeepsDownload (own_of s.start (e ∷ past) d.gid) (known_lengths s.start (e ∷ past) d.gid)
            (options_now s.start (e ∷ past) d) d c) same
            (new_keeps (own_of s.start (e ∷ past) d.gid) (known_lengths s.start (e ∷ past) d.gid)
            (options_now s.start (e ∷ past) d) d (length s.events) x
            (subst (λ (own : List OwnEvent). IsBare own) (sym (own_same d.gid)) (bare_own s.start past d.gid k.legal none))
            (options d ∙ fresh_options s.start past d k.legal none) n)))
            (last_cases ds d i b (ap (λ (bs : List Download). slice_get bs i) (sym one.downloads_is) ∙ is_added));
      };
      apart = subst (λ (bs : List Download). HaveOwnGids bs) (sym one.downloads_is) (apart_more ds d k.apart none);
      called = subst (λ (bs : List Download). AreAddedAt (s.events ++ e ∷ []) bs new.entries) (sym one.downloads_is)
          (subst (λ (xs : List Entry). AreAddedAt (s.events ++ e ∷ []) (ds ++ d ∷ []) xs) (sym entries)
          (grown_at s.events e ds d s.entries x k.downloads.many k.called n.called subject));
      homes = homes_stay s.start past e s.homes (λ g. ap granted_claims (own_same g))
          (λ g is. ap is_some (stays_added g ds (after_call s.start r asked).downloads adds is) ∙ is) k.homes;
      ends = record { left_is = k.ends.left_is; stopped_is = k.ends.stopped_is };
      room_is = room_is;
      log_is = logged_on s.start s.events e s.log k.log_is;
    }
