-- What a step of one download keeps of a machine.
use Rattle.std.proofs.Common.{◌≡◌, ◌≢◌, ℕ, Bool, true, false, cond, Some, ◌+◌, ◌<◌, ◌≤◌, zero-add, arith, List, [], ◌∷◌, ◌++◌, length, set, slice_get, refl, sym, ap, ◌∙◌, subst, ⊎_elim}
use Rattle.std.specs.Prelude.{All, Contains}
use Rattle.std.specs.Option.{is_some, option_and_then}
use Rattle.std.proofs.lemmas.Bool.{cases_eq, eq-eqb}
use Rattle.std.proofs.lemmas.List.{length-set}
use Rattle.std.proofs.lemmas.List.Sums.{sum_by-cons}
use Rattle.std.proofs.lemmas.Option.{slice_get_within, same_Some}
use Rattle.dl_kinds.specs.declared.gid.Gid.{Gid}
use Rattle.dl_kinds.specs.declared.claims.Claim.{Claim}
use Rattle.mirror_blame.specs.Marks.{counted}
use Rattle.dl_queue.specs.Lists.{QueueLists}
use Rattle.option_set.specs.Values.{OptionValues}
use Rattle.dl_history.specs.Accounts.{Account, after_own}
use Rattle.dl_history.specs.OwnEvents.{OwnEvent, Grants}
use Rattle.dl_history.specs.PayloadParts.{is_opened, is_opening, blames_in, told_total}
use Rattle.dl_history.specs.StandingClaims.{granted_claims}
use Rattle.one_download.specs.DownloadViews.{DownloadView, StaysSetUp, marks_after}
use Rattle.machine_core.specs.Choices.{options_now}
use Rattle.machine_core.specs.OwnParts.{PayloadLengths, own_of, with_own}
use Rattle.machine_core.specs.Replays.{Replay, download_of, replay_of, is_same_gid}
use Rattle.machine_core.specs.RunLegal.{MayFollow, download_in, known_lengths, makes_claim, mirrors_by, next_number, tries_in}
use Rattle.machine_core.specs.Starts.{RunStart, Download}
use Rattle.machine_core.specs.MachineParts.{KeepsDownload, KeepsDownloads, KeepsQueue, KeepsHomes, KeepsEnds, KeepsRun, MachineState, HaveOwnGids, AreAddedAt, kept_room, subject_of_event}
use Rattle.machine_core.specs.declared.entries.Entry.{Entry}
use Rattle.machine_core.specs.declared.events.Event.{Event}
use Rattle.machine_core.specs.declared.events.Event.TheVariants.{Called, Opened, Sized, Claimed, Landed, Settled, Cleared, Lost, Checked, Saved, Ended, Left, Stopped}
use Rattle.machine_core.proofs.Lists.{slice_get-set_same, slice_get-set_other, read-more}
use Rattle.machine_core.proofs.Parts.{gid_is, lengths_in, lengths_same}
use Rattle.machine_core.proofs.Logged.{logged_on}

-- ---- one's own events, and those of others

own_where : (gid g : Gid) (o : OwnEvent) (own : List OwnEvent) → g ≢ gid → (t : Bool) → is_same_gid g gid ≡ t
    → cond t (o ∷ own) own ≡ own
own_where gid g o own apart true same = absurd (apart (sym (gid_is g gid same)))
own_where gid g o own apart false same = refl

pub own_other : (gid g : Gid) (o : OwnEvent) (own : List OwnEvent) → g ≢ gid → with_own gid g o own ≡ own
own_other gid g o own apart = own_where gid g o own apart (is_same_gid g gid) refl

pub own_here : (gid : Gid) (o : OwnEvent) (own : List OwnEvent) → with_own gid gid o own ≡ o ∷ own
own_here gid o own = ap (λ (t : Bool). cond t (o ∷ own) own) (eq-eqb gid.0 gid.0 refl)

-- the event of the run is this event of this download, and changes neither downloads nor options
pub record Concerns (start : RunStart) (past : List Event) (e : Event) (gid : Gid) (o : OwnEvent) : Type 0 where
  pub own : (g : Gid) → own_of start (e ∷ past) g ≡ with_own gid g o (own_of start past g)
  pub downloads : (replay_of start (e ∷ past)).downloads ≡ (replay_of start past).downloads
  pub options : (d : Download) → options_now start (e ∷ past) d ≡ options_now start past d

-- an event that neither opens the download, nor tells a length, nor grants a claim
pub record IsPlain (o : OwnEvent) : Type 0 where
  pub closed : is_opening o ≡ false
  pub told : (own : List OwnEvent) → told_total (o ∷ own) ≡ told_total own
  pub granted : (own : List OwnEvent) → granted_claims (o ∷ own) ≡ granted_claims own

-- the marks that count, one by one
abbrev pub MarksFollow : Type 0
MarksFollow =
    (max_tries : ℕ) (own : List OwnEvent) (o : OwnEvent)
    → marks_after max_tries (counted max_tries (blames_in own)) o ≡ counted max_tries (blames_in (o ∷ own))

-- ---- one download

pub untouched : (own own' : List OwnEvent) (l l' : PayloadLengths) (v v' : OptionValues) (d : Download) (x : Entry)
    → own' ≡ own → l' ≡ l → v' ≡ v → KeepsDownload own l v d x → KeepsDownload own' l' v' d x
untouched own own' l l' v v' d x own_is l_is v_is k =
    subst (λ (os : List OwnEvent). KeepsDownload os l' v' d x) (sym own_is)
    (subst (λ (m : PayloadLengths). KeepsDownload own m v' d x) (sym l_is)
    (subst (λ (w : OptionValues). KeepsDownload own l w d x) (sym v_is) k))

-- what is kept of a download after an event of its own
pub record Follows (l : PayloadLengths) (o : OwnEvent) (old new : DownloadView) : Type 0 where
  pub account : new.account ≡ after_own l.total l.piece_len old.account o
  pub marks : new.marks ≡ marks_after old.max_tries old.marks o
  pub set_up : StaysSetUp old new

closed_own : (o : OwnEvent) (own : List OwnEvent) → is_opening o ≡ false → is_opened (o ∷ own) ≡ true
    → is_opened own ≡ true
closed_own o own closed h = rw closed at h

pub goes_on : MarksFollow → (own : List OwnEvent) (l : PayloadLengths) (v : OptionValues) (o : OwnEvent) (d : Download)
    (x : Entry) (s : DownloadView) → IsPlain o → KeepsDownload own l v d x → Follows l o x.state s
    → KeepsDownload (o ∷ own) l v d (record x { state = s })
goes_on law own l v o d x s plain k f =
    record {
      gid = k.gid;
      options_are = k.options_are;
      account = f.account ∙ ap (λ (a : Account). after_own l.total l.piece_len a o) k.account;
      marks = f.marks ∙ (rw (k.max_tries, k.marks) (law (tries_in d) own o));
      mirrors = f.set_up.mirrors ∙ k.mirrors;
      max_tries = f.set_up.max_tries ∙ k.max_tries;
      hosts = k.hosts;
      wanted = λ h. f.set_up.wanted ∙ k.wanted (closed_own o own plain.closed h);
      known = subst (λ (cs : List Claim). All (λ (c : Claim). c.mirror < mirrors_by d.subject) cs)
          (sym (plain.granted own)) k.known;
    }

-- ---- all downloads

-- the download at a place
pub record IsAt (start : RunStart) (past : List Event) (entries : List Entry) (gid : Gid) (at : ℕ) (d : Download)
    (x : Entry) : Type 0 where
  pub added : slice_get (replay_of start past).downloads at ≡ Some d
  pub there : slice_get entries at ≡ Some x
  pub gid_is : d.gid ≡ gid

pub lengths_of : (start : RunStart) (past : List Event) (e : Event) (g : Gid)
    → (replay_of start (e ∷ past)).downloads ≡ (replay_of start past).downloads
    → told_total (own_of start (e ∷ past) g) ≡ told_total (own_of start past g)
    → known_lengths start (e ∷ past) g ≡ known_lengths start past g
lengths_of start past e g downloads told =
    ap (λ (ds : List Download). lengths_in ds g (own_of start (e ∷ past) g)) downloads
    ∙ lengths_same (replay_of start past).downloads g (own_of start past g) (own_of start (e ∷ past) g) told

-- the event leaves what is kept of every other download, and what is kept of its own one is given
pub set_one : (start : RunStart) (past : List Event) (e : Event) (gid : Gid) (o : OwnEvent) (entries : List Entry)
    (at : ℕ) (d : Download) (x x' : Entry)
    → KeepsDownloads start past entries → HaveOwnGids (replay_of start past).downloads
    → IsAt start past entries gid at d x → Concerns start past e gid o
    → KeepsDownload (own_of start (e ∷ past) d.gid) (known_lengths start (e ∷ past) d.gid)
    (options_now start (e ∷ past) d) d x'
    → KeepsDownloads start (e ∷ past) (set entries at x')
set_one start past e gid o entries at d x x' k apart here c new =
    record {
      many = length-set entries at x' ∙ (k.many ∙ ap (λ (ds : List Download). length ds) (sym c.downloads));
      each = λ i b y added there.
          let old_added : slice_get (replay_of start past).downloads i ≡ Some b =
          ap (λ (ds : List Download). slice_get ds i) (sym c.downloads) ∙ added in
          ⊎_elim
          (λ (is : i ≡ at).
          let b_is : d ≡ b =
          same_Some d b (sym here.added ∙ (ap (slice_get (replay_of start past).downloads) (sym is) ∙ old_added)) in
          let y_is : x' ≡ y =
          same_Some x' y
          (sym (slice_get-set_same entries at x' (slice_get_within entries at x here.there))
          ∙ (ap (slice_get (set entries at x')) (sym is) ∙ there)) in
          subst (λ (z : Entry). KeepsDownload (own_of start (e ∷ past) b.gid) (known_lengths start (e ∷ past) b.gid)
          (options_now start (e ∷ past) b) b z) y_is
          (subst (λ (z : Download). KeepsDownload (own_of start (e ∷ past) z.gid)
          (known_lengths start (e ∷ past) z.gid) (options_now start (e ∷ past) z) z x') b_is new))
          (λ (other : i ≢ at).
          let far : b.gid ≢ gid =
          λ same. other (apart i at b d old_added here.added (same ∙ sym here.gid_is)) in
          let own : own_of start (e ∷ past) b.gid ≡ own_of start past b.gid =
          c.own b.gid ∙ own_other gid b.gid o (own_of start past b.gid) far in
          untouched (own_of start past b.gid) (own_of start (e ∷ past) b.gid) (known_lengths start past b.gid)
          (known_lengths start (e ∷ past) b.gid) (options_now start past b) (options_now start (e ∷ past) b) b y own
          (lengths_of start past e b.gid c.downloads (ap told_total own)) (c.options b)
          (k.each i b y old_added (sym (slice_get-set_other entries at i x' other) ∙ there)))
          (cases_eq i at);
    }

-- what is kept of the download of the event
pub own_one : MarksFollow → (start : RunStart) (past : List Event) (e : Event) (gid : Gid) (o : OwnEvent)
    (entries : List Entry) (at : ℕ) (d : Download) (x : Entry) (s : DownloadView) → KeepsDownloads start past entries
    → IsAt start past entries gid at d x → Concerns start past e gid o → IsPlain o
    → Follows (known_lengths start past gid) o x.state s
    → KeepsDownload (own_of start (e ∷ past) d.gid) (known_lengths start (e ∷ past) d.gid)
    (options_now start (e ∷ past) d) d (record x { state = s })
own_one law start past e gid o entries at d x s k here c plain f =
    let own : own_of start (e ∷ past) d.gid ≡ o ∷ own_of start past d.gid =
    c.own d.gid
    ∙ (ap (λ (g : Gid). with_own g d.gid o (own_of start past d.gid)) (sym here.gid_is)
    ∙ own_here d.gid o (own_of start past d.gid)) in
    untouched (o ∷ own_of start past d.gid) (own_of start (e ∷ past) d.gid) (known_lengths start past d.gid)
    (known_lengths start (e ∷ past) d.gid) (options_now start past d) (options_now start (e ∷ past) d) d
    (record x { state = s }) own
    (lengths_of start past e d.gid c.downloads (ap told_total own ∙ plain.told (own_of start past d.gid)))
    (c.options d)
    (goes_on law (own_of start past d.gid) (known_lengths start past d.gid) (options_now start past d) o d x s plain
    (k.each at d x here.added here.there)
    (subst (λ (g : Gid). Follows (known_lengths start past g) o x.state s) (sym here.gid_is) f))

-- ---- the whole

granted_cases : (t : Bool) (own : List OwnEvent) (o : OwnEvent) → granted_claims (o ∷ own) ≡ granted_claims own
    → granted_claims (cond t (o ∷ own) own) ≡ granted_claims own
granted_cases true own o same = same
granted_cases false own o same = refl

-- an event that grants no download a claim makes none
more_claims : (claim : Claim) (cs ds : List Claim) → claim ∷ cs ≡ ds → cs ≡ ds → ⊥
more_claims claim cs ds more same =
    let n : length (claim ∷ cs) ≡ length cs = ap (λ (l : List Claim). length l) (more ∙ sym same) in omega arith

makes_none : (start : RunStart) (past : List Event) (e : Event)
    → ((g : Gid) → granted_claims (own_of start (e ∷ past) g) ≡ granted_claims (own_of start past g))
    → makes_claim e ≡ false
makes_none start past (Claimed gid claim) same =
    let here : granted_claims (own_of start (Claimed gid claim ∷ past) gid)
    ≡ claim ∷ granted_claims (own_of start past gid) = ap granted_claims (own_here gid (Grants claim) (own_of start past gid)) in
    absurd (more_claims claim (granted_claims (own_of start past gid)) (granted_claims (own_of start past gid))
    (sym here ∙ same gid) refl)
makes_none start past (Called session asked now) same = refl
makes_none start past (Opened gid verified blocks now) same = refl
makes_none start past (Sized gid id total) same = refl
makes_none start past (Landed gid id mirror run now) same = refl
makes_none start past (Settled gid piece right giver) same = refl
makes_none start past (Cleared gid piece) same = refl
makes_none start past (Lost gid id mirror piece mark) same = refl
makes_none start past (Checked gid right) same = refl
makes_none start past (Saved gid now) same = refl
makes_none start past (Ended gid how) same = refl
makes_none start past Left same = refl
makes_none start past Stopped same = refl

pub numbers_stay : (e : Event) (past : List Event) → makes_claim e ≡ false → next_number past ≡ next_number (e ∷ past)
numbers_stay e past none =
    sym (sum_by-cons (λ (x : Event). cond (makes_claim x) 1 0) e past
    ∙ ap (λ (t : Bool). cond t 1 0 + next_number past) none ∙ zero-add (next_number past))

pub homes_stay : (start : RunStart) (past : List Event) (e : Event) (homes : List Gid)
    → ((g : Gid) → granted_claims (own_of start (e ∷ past) g) ≡ granted_claims (own_of start past g))
    → ((g : Gid) → is_some (download_in start past g) ≡ true → is_some (download_in start (e ∷ past) g) ≡ true)
    → KeepsHomes start past homes → KeepsHomes start (e ∷ past) homes
homes_stay start past e homes same added k =
    record {
      many = k.many ∙ numbers_stay e past (makes_none start past e same);
      own = λ g claim there. k.own g claim (subst (λ (cs : List Claim). Contains cs claim) (same g) there);
      added = λ id g at. added g (k.added id g at);
    }

-- each was added by the call at its place, also once an entry's state is another
pub called_set : (events more : List Event) (downloads : List Download) (entries : List Entry) (at : ℕ) (x : Entry)
    (s : DownloadView) → slice_get entries at ≡ Some x → AreAddedAt events downloads entries
    → AreAddedAt (events ++ more) downloads (set entries at (record x { state = s }))
called_set events more downloads entries at x s there k i d y added here =
    ⊎_elim
    (λ (is : i ≡ at).
    let y_is : record x { state = s } ≡ y =
    same_Some (record x { state = s }) y
    (sym (slice_get-set_same entries at (record x { state = s }) (slice_get_within entries at x there))
    ∙ (ap (slice_get (set entries at (record x { state = s }))) (sym is) ∙ here)) in
    subst (λ (z : Entry). option_and_then subject_of_event (slice_get (events ++ more) z.called) ≡ Some d.subject)
    y_is
    (read-more subject_of_event events more x.called d.subject
    (k i d x added (ap (slice_get entries) is ∙ there))))
    (λ (other : i ≢ at).
    read-more subject_of_event events more y.called d.subject
    (k i d y added (sym (slice_get-set_other entries at i (record x { state = s }) other) ∙ here)))
    (cases_eq i at)

-- the machine after an event of one download, given what is kept of that download and of the queue
pub run_step : (past : List Event) (s : MachineState) (e : Event) (gid : Gid) (o : OwnEvent) (at : ℕ)
    (d : Download) (x : Entry) (v : DownloadView) (queue : QueueLists) (room : ℕ)
    → KeepsRun past s → IsAt s.start past s.entries gid at d x → Concerns s.start past e gid o
    → ((own : List OwnEvent) → granted_claims (o ∷ own) ≡ granted_claims own)
    → KeepsQueue (replay_of s.start (e ∷ past)) queue s.global s.shut
    → KeepsEnds (e ∷ past) s.left s.stopped → MayFollow s.start past e
    → KeepsDownload (own_of s.start (e ∷ past) d.gid) (known_lengths s.start (e ∷ past) d.gid)
    (options_now s.start (e ∷ past) d) d (record x { state = v })
    → kept_room s.start.doors s.left s.stopped ≤ room
    → KeepsRun (e ∷ past) (record s {
      events = s.events ++ e ∷ [];
      queue = queue;
      entries = set s.entries at (record x { state = v });
      room = room;
    })
run_step past s e gid o at d x v queue room k here c granted queues ends may new room_is =
    record {
      legal = (k.legal, may);
      queue = queues;
      downloads = set_one s.start past e gid o s.entries at d x (record x { state = v }) k.downloads k.apart here c new;
      apart = subst (λ (ds : List Download). HaveOwnGids ds) (sym c.downloads) k.apart;
      called = subst
          (λ (ds : List Download). AreAddedAt (s.events ++ e ∷ []) ds (set s.entries at (record x { state = v })))
          (sym c.downloads)
          (called_set s.events (e ∷ []) (replay_of s.start past).downloads s.entries at x v here.there k.called);
      homes = homes_stay s.start past e s.homes
          (λ g. ap granted_claims (c.own g)
          ∙ granted_cases (is_same_gid g gid) (own_of s.start past g) o (granted (own_of s.start past g)))
          (λ g there. ap (λ (ds : List Download). is_some (download_of ds g)) c.downloads ∙ there) k.homes;
      ends = ends;
      room_is = room_is;
      log_is = logged_on s.start s.events e s.log k.log_is;
    }

-- .. that leaves the queue as it was, and is a plain one
pub one_step : MarksFollow → (past : List Event) (s : MachineState) (e : Event) (gid : Gid) (o : OwnEvent) (at : ℕ)
    (d : Download) (x : Entry) (v : DownloadView) (room : ℕ)
    → KeepsRun past s → IsAt s.start past s.entries gid at d x
    → Concerns s.start past e gid o → IsPlain o → replay_of s.start (e ∷ past) ≡ replay_of s.start past
    → KeepsEnds (e ∷ past) s.left s.stopped → MayFollow s.start past e
    → Follows (known_lengths s.start past gid) o x.state v → kept_room s.start.doors s.left s.stopped ≤ room
    → KeepsRun (e ∷ past) (record s {
      events = s.events ++ e ∷ [];
      entries = set s.entries at (record x { state = v });
      room = room;
    })
one_step law past s e gid o at d x v room k here c plain replay ends may f room_is =
    run_step past s e gid o at d x v s.queue room k here c plain.granted
    (subst (λ (r : Replay). KeepsQueue r s.queue s.global s.shut) (sym replay) k.queue) ends may
    (own_one law s.start past e gid o s.entries at d x v k.downloads here c plain f) room_is
