-- What an operation leaves on the disk, of the download that it is for and of all others.
use Rattle.std.proofs.Common.{◌≡◌, ◌≢◌, ◌⊎◌, inl, ⊎_elim, ℕ, Bool, true, false, Some, List, [], ◌∷◌, slice_get, refl, sym, ap, ◌∙◌, subst, arith}
use Rattle.std.specs.Prelude.{Contains, Err, IfOk, IsTrue, Ok, OnErr, Option, Result}
use Rattle.control_file.specs.declared.want.Want.{Want}
use Rattle.dl_disk.specs.State.{DiskState}
use Rattle.dl_history.specs.Listings.{Listing, last_listing}
use Rattle.dl_history.specs.OwnEvents.{OwnEvent, Clears, Grants, Halts, Loses, Sizes}
use Rattle.dl_history.specs.PayloadParts.{is_ended, is_sole_in, is_verified_in}
use Rattle.dl_kinds.specs.declared.claims.Claim.{Claim}
use Rattle.dl_kinds.specs.declared.gid.Gid.{Gid}
use Rattle.dl_kinds.specs.declared.marks.Mark.{Mark}
use Rattle.dl_kinds.specs.declared.runs.Run.{Run}
use Rattle.durable_progress.specs.HeldSteps.{IsHeldNow}
use Rattle.engine_turns.specs.ClaimRows.{IsTooLongFor, LossPhase, TellingPhase, sole_phase}
use Rattle.engine_turns.specs.Phases.{AndThen, DeadPhase, IfElse, JustEnd, JustEvent, NoEvent, Phase, TurnStart}
use Rattle.engine_turns.specs.Told.{history_after}
use Rattle.engine_turns.specs.declared.outcome.Outcome.{Outcome}
use Rattle.machine_core.specs.Claiming.{IsClaimUnder}
use Rattle.machine_core.specs.MachineViews.{Appends, MachineView}
use Rattle.machine_core.specs.Offers.{offered_claim}
use Rattle.machine_core.specs.TurnRooms.{IsRoomierRun}
use Rattle.machine_core.specs.OwnParts.{own_of}
use Rattle.machine_core.specs.Starts.{Download, RunStart}
use Rattle.machine_core.specs.declared.ends.End.{End}
use Rattle.machine_core.specs.declared.ends.End.TheVariants as end
use Rattle.machine_core.specs.declared.events.Event.{Event}
use Rattle.machine_core.specs.declared.events.Event.TheVariants.{Claimed, Cleared, Ended, Left, Lost, Sized}
use Rattle.resume_core.specs.Openings.{KeepsBesides}
use Rattle.resume_core.specs.Resume.{HasDigest}
use Rattle.resume_core.specs.Sharing.{share_names}
use Rattle.resume_core.specs.Steps.{SameBesides}
use Rattle.resume_core.specs.Wants.{files_in}
use Rattle.stored_run.specs.Leavings.{IsLeft, IsLeftHeld, IsLeftOf, LeavesDisk}
use Rattle.stored_run.specs.RunFollows.{RunFollows}
use Rattle.stored_run.specs.Steps.{Continues, DoesPart, EndsGid, EndsStored, KeepsStored, turn_from}
use Rattle.stored_run.specs.Stored.{IsStored, IsStoredRun}
use Rattle.stored_run.specs.Views.{IsDoneOf, IsGoing, kept_want_of, own_in}
use Rattle.stored_run.specs.declared.run.StoredView.{StoredView}
use Rattle.stored_run.proofs.Doing.{IsGrown, control_there, grown_none, grown_on}
use Rattle.stored_run.proofs.Endings.{GoingFacts, apart_from, cleared_own, ended_own, going_facts, unended}
use Rattle.stored_run.proofs.Keeps.{keeps_beside, keeps_none}
use Rattle.stored_run.proofs.Kept.{IsPlain, checks, clears, grants, halts, lands, loses, own_where, sizes}
use Rattle.stored_run.proofs.Left.{any_none, any_of, for_none, held_stored, keeps_for, left_beside, left_of, not_complete, one_of}
use Rattle.stored_run.proofs.OfOne.{AllowsOnly, Each, dead_in, else_in, end_in, event_in, none_in, then_in}
use Rattle.stored_run.proofs.Single.{IsOwnOf, moved}
use Rattle.stored_run.proofs.Touching.{same_or_apart}

-- what is kept doesn't end whole
pub kept_ends : (Whole : Type 0) (want : Want) (was own : List OwnEvent) (a b : DiskState) → KeepsStored want was own a b
    → EndsStored want Whole was own a b
kept_ends Whole want was own a b keeps = record {
  images = λ image left. inl (keeps.images image left);
  sound = keeps.sound;
  right = λ lacks sound listed p verified. control_there want b.seen keeps.control lacks;
}

-- ---- an operation for one download

module _ {D : Type 0} (laws : RunFollows) (tells : Bool) (faults : ℕ) (old new : StoredView D) (a b : DiskState)
    (run : IsStoredRun tells faults a old) (told : IsTrue tells) (gid : Gid) (going : IsGoing old gid)
    (ends : EndsGid gid old new a b) (left : IsLeftOf new gid b)
    (wants : (g : Gid) (w : Want) → kept_want_of old g ≡ Some w → kept_want_of new g ≡ Some w)
    (others : (g : Gid) → g ≢ gid → own_in new g ≡ own_in old g) where
  facts : GoingFacts old.machine.start old.machine.past old.wants.items gid
  facts = going_facts old.machine.start old.machine.past old.wants.items gid run.wants_are going

  besides : KeepsBesides facts.want a b
  besides = (ends facts.want facts.kept).besides

  apart : (g : Gid) (w : Want) → IsGoing old g → g ≢ gid → kept_want_of old g ≡ Some w
      → share_names facts.want w ≡ false
  apart g w goes other kept =
      apart_from tells faults a old.machine.start old.machine.past old.wants.items old.now gid facts.want run going
      facts.kept g w goes other kept

  each_other : (g : Gid) (w : Want) → IsGoing old g → g ≢ gid → kept_want_of old g ≡ Some w
      → EndsStored w (IsDoneOf new g) (own_in old g) (own_in new g) a b
  each_other g w goes other kept =
      let own = own_in old g in
      kept_ends (IsDoneOf new g) w own (own_in new g) a b
      (subst (λ (ys : List OwnEvent). KeepsStored w own ys a b) (sym (others g other))
      (keeps_beside laws facts.want w own own a a b (apart g w goes other kept) (omega arith)
      (keeps_none laws w own own a (run.wants_are.sound g w kept) (grown_none own) (run.stored told g w goes kept)) besides))

  left_other : (g : Gid) (w : Want) → IsGoing old g → g ≢ gid → kept_want_of old g ≡ Some w → IsLeft new g w b
  left_other g w goes other kept =
      let own = own_in old g in
      left_of new.machine.start new.machine.past g w b
      (subst (λ (ys : List OwnEvent). IsLeftHeld w ys b) (sym (others g other))
      (left_beside laws facts.want w own a b (apart g w goes other kept) besides
      (held_stored w own a (run.stored told g w goes kept))))
      (not_complete new.machine.start new.machine.past g
      (ap is_ended (others g other) ∙ unended laws old.machine.start old.machine.past g run.legal goes))

  pub leaves_one : LeavesDisk old new a b
  leaves_one = record {
    time = any_of (SameBesides facts.want) a b besides.passes;
    others = λ other beside. keeps_for laws facts.want other a b (beside gid facts.want going facts.kept) besides;
    each = λ g w goes kept. ⊎_elim
        (λ (same : g ≡ gid).
        subst
        (λ (h : Gid). kept_want_of old h ≡ Some w → EndsStored w (IsDoneOf new h) (own_in old h) (own_in new h) a b)
        (sym same) (λ is. (ends w is).kept (run.stored told gid w going is)) kept)
        (λ (other : g ≢ gid). each_other g w goes other kept)
        (same_or_apart g gid);
    left = λ g w goes kept. ⊎_elim
        (λ (same : g ≡ gid).
        subst (λ (h : Gid). kept_want_of old h ≡ Some w → IsLeft new h w b) (sym same)
        (λ is. left w (wants gid w is)) kept)
        (λ (other : g ≢ gid). left_other g w goes other kept)
        (same_or_apart g gid);
  }

-- ---- an operation without calls of the disk

-- what is stored of a download is stored after these events: the last save lists the same, and no more is verified
pub record StaysStored (was own : List OwnEvent) : Type 0 where
  pub grown : IsGrown was own
  pub saved : (total len : ℕ) → last_listing total len own ≡ last_listing total len was
  pub verified : (p : ℕ) → is_verified_in own p ≡ true → is_verified_in was p ≡ true

stays_none : (own : List OwnEvent) → StaysStored own own
stays_none own = record { grown = grown_none own; saved = λ total len. refl; verified = λ p is. is }

stays_on : (was mid own : List OwnEvent) → StaysStored was mid → StaysStored mid own → StaysStored was own
stays_on was mid own first second = record {
  grown = grown_on was mid own first.grown second.grown;
  saved = λ total len. second.saved total len ∙ first.saved total len;
  verified = λ p is. first.verified p (second.verified p is);
}

stays_stored : (want : Want) (was own : List OwnEvent) (disk : DiskState) → StaysStored was own → IsStored want was disk
    → IsStored want own disk
stays_stored want was own disk stays is =
    let same = sym (stays.saved want.plan.total want.plan.piece_len) in
    record {
      held = subst (λ (l : Listing). IsHeldNow want l disk) same is.held;
      right = λ listed p verified.
          subst (λ (l : Listing). (slice_get l.pieces p ≡ Some true) ⊎ HasDigest want (files_in want disk.seen) p) same
          (is.right listed p (stays.verified p verified));
    }

plain_listing : (total len : ℕ) (x : OwnEvent) (own : List OwnEvent) → IsPlain x
    → last_listing total len (x ∷ own) ≡ last_listing total len own
plain_listing total len x own (grants claim) = refl
plain_listing total len x own (lands id mirror run) = refl
plain_listing total len x own (clears piece) = refl
plain_listing total len x own (loses id mirror piece mark) = refl
plain_listing total len x own (sizes id told) = refl
plain_listing total len x own (checks right) = refl
plain_listing total len x own (halts ends) = refl

plain_verified : (x : OwnEvent) (own : List OwnEvent) (p : ℕ) → IsPlain x → is_verified_in (x ∷ own) p ≡ true
    → is_verified_in own p ≡ true
plain_verified x own p (grants claim) is = is
plain_verified x own p (lands id mirror run) is = is
plain_verified x own p (clears piece) is = is
plain_verified x own p (loses id mirror piece mark) is = is
plain_verified x own p (sizes id told) is = is
plain_verified x own p (checks right) is = is
plain_verified x own p (halts ends) is = is

stays_plain : (x : OwnEvent) (own : List OwnEvent) → IsPlain x → StaysStored own (x ∷ own)
stays_plain x own plain = record {
  grown = (x ∷ [], refl);
  saved = λ total len. plain_listing total len x own plain;
  verified = λ p is. plain_verified x own p plain is;
}

-- the event opens, saves and settles nothing, and completes no download
pub record IsIdle (e : Event) : Type 0 where
  pub own : (start : RunStart) (past : List Event) (g : Gid) → StaysStored (own_of start past g) (own_of start (e ∷ past) g)
  pub incomplete : (g : Gid) → e ≡ Ended g end.Complete → ⊥

idle_of : (e : Event) (gid : Gid) (x : OwnEvent) → IsOwnOf e gid x → IsPlain x
    → ((g : Gid) → e ≡ Ended g end.Complete → ⊥) → IsIdle e
idle_of e gid x own plain incomplete = record {
  own = λ start past g.
      subst (λ (ys : List OwnEvent). StaysStored (own_of start past g) ys) (sym (own.own start past g))
      (own_where (λ (ys : List OwnEvent). StaysStored (own_of start past g) ys) gid g x (own_of start past g)
      (λ same. stays_plain x (own_of start past g) plain) (stays_none (own_of start past g)));
  incomplete = incomplete;
}

pub lost_idle : (gid : Gid) (id mirror piece : ℕ) (mark : Mark) → IsIdle (Lost gid id mirror piece mark)
lost_idle gid id mirror piece mark =
    idle_of (Lost gid id mirror piece mark) gid (Loses id mirror piece mark)
    (record { own = λ start past g. refl; closed = λ own is. is }) (loses id mirror piece mark) (λ g same. absurd cc)

pub cleared_idle : (gid : Gid) (piece : ℕ) → IsIdle (Cleared gid piece)
cleared_idle gid piece =
    idle_of (Cleared gid piece) gid (Clears piece) (cleared_own gid piece) (clears piece) (λ g same. absurd cc)

pub sized_idle : (gid : Gid) (id total : ℕ) → IsIdle (Sized gid id total)
sized_idle gid id total =
    idle_of (Sized gid id total) gid (Sizes id total) (record { own = λ start past g. refl; closed = λ own is. is })
    (sizes id total) (λ g same. absurd cc)

pub claimed_idle : (gid : Gid) (claim : Claim) → IsIdle (Claimed gid claim)
claimed_idle gid claim =
    idle_of (Claimed gid claim) gid (Grants claim) (record { own = λ start past g. refl; closed = λ own is. is })
    (grants claim) (λ g same. absurd cc)

complete_is : (gid g : Gid) (how : End) → Ended gid how ≡ Ended g end.Complete → how ≡ end.Complete
complete_is gid g how same = cc

pub ended_idle : (gid : Gid) (how : End) → (how ≢ end.Complete) → IsIdle (Ended gid how)
ended_idle gid how other =
    idle_of (Ended gid how) gid (Halts true) (ended_own gid how) (halts true) (λ g same. other (complete_is gid g how same))

pub left_idle : IsIdle Left
left_idle = record { own = λ start past g. stays_none (own_of start past g); incomplete = λ g same. absurd cc }

idle_own : (start : RunStart) (events past : List Event) → Each IsIdle events → (g : Gid)
    → StaysStored (own_of start past g) (own_of start (history_after past events) g)
idle_own start [] past all g = stays_none (own_of start past g)
idle_own start (e ∷ events) past (here, all) g =
    stays_on (own_of start past g) (own_of start (e ∷ past) g) (own_of start (history_after (e ∷ past) events) g)
    (here.own start past g) (idle_own start events (e ∷ past) all g)

-- the event completes no download
abbrev pub IsIncomplete : Event → Type 0
IsIncomplete e = (g : Gid) → e ≡ Ended g end.Complete → ⊥

pub none_completes : (events past : List Event) → Each IsIncomplete events → (g : Gid)
    → Contains (history_after past events) (Ended g end.Complete) → Contains past (Ended g end.Complete)
none_completes [] past all g there = there
none_completes (e ∷ events) past (here, all) g there = ⊎_elim
    (λ (is : e ≡ Ended g end.Complete). absurd (here g is))
    (λ (before : Contains past (Ended g end.Complete)). before)
    (one_of e (Ended g end.Complete) past (none_completes events (e ∷ past) all g there))

idle_incomplete : (events : List Event) → Each IsIdle events → Each IsIncomplete events
idle_incomplete [] all = tt
idle_incomplete (e ∷ events) (here, all) = (here.incomplete, idle_incomplete events all)

module _ {D : Type 0} (laws : RunFollows) (tells : Bool) (faults : ℕ) (old new : StoredView D) (disk : DiskState)
    (run : IsStoredRun tells faults disk old) (told : IsTrue tells) (events : List Event) (all : Each IsIdle events)
    (start_is : new.machine.start ≡ old.machine.start)
    (past_is : new.machine.past ≡ history_after old.machine.past events) where
  own_stays : (g : Gid) → StaysStored (own_in old g) (own_in new g)
  own_stays g =
      moved (λ (s : RunStart) (xs : List Event). StaysStored (own_in old g) (own_of s xs g)) old.machine.start
      new.machine.start (history_after old.machine.past events) new.machine.past start_is past_is
      (idle_own old.machine.start events old.machine.past all g)

  none_complete : (g : Gid) → IsGoing old g → Contains new.machine.past (Ended g end.Complete) → ⊥
  none_complete g goes there =
      not_complete old.machine.start old.machine.past g (unended laws old.machine.start old.machine.past g run.legal goes)
      (none_completes events old.machine.past (idle_incomplete events all) g
      (subst (λ (xs : List Event). Contains xs (Ended g end.Complete)) past_is there))

  pub leaves_idle : LeavesDisk old new disk disk
  leaves_idle = record {
    time = any_none disk;
    others = λ other beside. for_none other disk;
    each = λ g w goes kept.
        kept_ends (IsDoneOf new g) w (own_in old g) (own_in new g) disk disk
        (keeps_none laws w (own_in old g) (own_in new g) disk (run.wants_are.sound g w kept) (own_stays g).grown
        (run.stored told g w goes kept));
    left = λ g w goes kept.
        left_of new.machine.start new.machine.past g w disk
        (held_stored w (own_in new g) disk
        (stays_stored w (own_in old g) (own_in new g) disk (own_stays g) (run.stored told g w goes kept)))
        (none_complete g goes);
  }

-- nothing happened
pub leaves_still : {D : Type 0} → RunFollows → (tells : Bool) (faults : ℕ) (r : StoredView D) (disk : DiskState)
    → IsStoredRun tells faults disk r → IsTrue tells → LeavesDisk r r disk disk
leaves_still laws tells faults r disk run told = leaves_idle laws tells faults r r disk run told [] tt refl refl

-- a part of such events
pub leaves_told : {D : Type 0} (laws : RunFollows) (tells : Bool) (F : D → ℕ) (S : D → DiskState) (P : TurnStart → Phase)
    (old new : StoredView D) (n f f' : ℕ) (o : Outcome) → IsStoredRun tells (F old.disk) (S old.disk) old → IsTrue tells
    → Continues n old new → DoesPart P old f new f' o → AllowsOnly IsIdle (P (turn_from old f)) → new.disk ≡ old.disk
    → LeavesDisk old new (S old.disk) (S new.disk)
leaves_told laws tells F S P old new n f f' o run told on did only same =
    subst (λ d. LeavesDisk old new (S old.disk) (S d)) (sym same)
    (leaves_idle laws tells (F old.disk) old new (S old.disk) run told did.events
    (only old.machine.past did.events o (did.is f (omega arith))) on.start did.grown)

-- the loss of a claim
sole_in : (gid : Gid) (piece : ℕ) (sole : Bool) → AllowsOnly IsIdle (sole_phase gid piece sole)
sole_in gid piece true = event_in IsIdle (Cleared gid piece) (cleared_idle gid piece)
sole_in gid piece false = none_in IsIdle

pub loss_in : (at : TurnStart) (past : List Event) (download : Download) (claim : Claim) (mark : Mark) (piece : ℕ)
    → AllowsOnly IsIdle (LossPhase at past download claim mark piece)
loss_in at past download claim mark piece =
    let gid = download.gid in
    let sole = is_sole_in (own_of at.start past gid) piece in
    then_in IsIdle (JustEvent (Lost gid claim.id claim.mirror piece mark))
    (AndThen (sole_phase gid piece sole) (DeadPhase at download piece))
    (event_in IsIdle (Lost gid claim.id claim.mirror piece mark) (lost_idle gid claim.id claim.mirror piece mark))
    (then_in IsIdle (sole_phase gid piece sole) (DeadPhase at download piece) (sole_in gid piece sole)
    (dead_in IsIdle at download piece (λ how other. ended_idle gid how other)))

-- the length that a probe told
pub telling_in : (download : Download) (claim : Claim) (total : ℕ) → AllowsOnly IsIdle (TellingPhase download claim total)
telling_in download claim total =
    let gid = download.gid in
    then_in IsIdle (JustEvent (Sized gid claim.id total))
    (IfElse (IsTooLongFor download total) (JustEnd (Ended gid (end.TooLarge total))) NoEvent)
    (event_in IsIdle (Sized gid claim.id total) (sized_idle gid claim.id total))
    (else_in IsIdle (IsTooLongFor download total) (JustEnd (Ended gid (end.TooLarge total))) NoEvent
    (end_in IsIdle (Ended gid (end.TooLarge total)) (ended_idle gid (end.TooLarge total) (λ same. absurd cc)))
    (none_in IsIdle))

-- a claim
pub leaves_claimed : {D E : Type 0} (laws : RunFollows) (tells : Bool) (F : D → ℕ) (S : D → DiskState) (u v : StoredView D)
    (new : MachineView) (gid : Gid) (worker mirror : ℕ) (run : Run) (victim : Option ℕ) → u ≡ v
    → IsStoredRun tells (F u.disk) (S u.disk) u → IsTrue tells → (r : Result ℕ E)
    → IfOk r (λ id. Appends u.machine new (IsClaimUnder id gid worker mirror run victim u.now))
    → OnErr r (IsRoomierRun u.machine new)
    → LeavesDisk v (record u { machine = new }) (S v.disk) (S u.disk)
leaves_claimed laws tells F S u v new gid worker mirror run victim same was told (Ok id) came roomier =
    subst (λ (w : StoredView _). LeavesDisk w (record u { machine = new }) (S w.disk) (S u.disk)) same
    (leaves_idle laws tells (F u.disk) u (record u { machine = new }) (S u.disk) was told
    (Claimed gid (offered_claim mirror run victim id worker u.now.0) ∷ [])
    (claimed_idle gid (offered_claim mirror run victim id worker u.now.0), tt) came.start_is
    (came.past_is ∙ ap (λ (e : Event). e ∷ u.machine.past) came.is))
leaves_claimed laws tells F S u v new gid worker mirror run victim same was told (Err e) came roomier =
    subst (λ (w : StoredView _). LeavesDisk w (record u { machine = new }) (S w.disk) (S u.disk)) same
    (leaves_idle laws tells (F u.disk) u (record u { machine = new }) (S u.disk) was told [] tt roomier.start_is
    roomier.past_is)

-- an offer
pub leaves_roomier : {D : Type 0} (laws : RunFollows) (tells : Bool) (F : D → ℕ) (S : D → DiskState) (u v : StoredView D)
    (new : MachineView) → u ≡ v → IsStoredRun tells (F u.disk) (S u.disk) u → IsTrue tells
    → IsRoomierRun u.machine new → LeavesDisk v (record u { machine = new }) (S v.disk) (S u.disk)
leaves_roomier laws tells F S u v new same was told roomier =
    subst (λ (w : StoredView _). LeavesDisk w (record u { machine = new }) (S w.disk) (S u.disk)) same
    (leaves_idle laws tells (F u.disk) u (record u { machine = new }) (S u.disk) was told [] tt roomier.start_is
    roomier.past_is)

-- a door closed
pub leaves_door : {D : Type 0} (laws : RunFollows) (tells : Bool) (F : D → ℕ) (S : D → DiskState) (u v : StoredView D)
    (new : MachineView) → u ≡ v → IsStoredRun tells (F u.disk) (S u.disk) u → IsTrue tells
    → Appends u.machine new (λ e. e ≡ Left) → LeavesDisk v (record u { machine = new }) (S v.disk) (S u.disk)
leaves_door laws tells F S u v new same was told came =
    subst (λ (w : StoredView _). LeavesDisk w (record u { machine = new }) (S w.disk) (S u.disk)) same
    (leaves_idle laws tells (F u.disk) u (record u { machine = new }) (S u.disk) was told (Left ∷ []) (left_idle, tt)
    came.start_is (came.past_is ∙ ap (λ (e : Event). e ∷ u.machine.past) came.is))
