-- A download ends, or one of its pieces is cleared.
use Rattle.std.proofs.Common.{◌≡◌, ◌≢◌, ◌≤◌, ◌<◌, ◌-◌, ◌^◌, ℕ, Bool, true, false, Option, Some, None, List, [], ◌∷◌, ◌⊎◌, inl, inr, ⊎_elim, refl, sym, ap, ◌∙◌, subst, arith}
use Rattle.std.specs.Prelude.{All, Err, IfSome, IsTrue, Result, slice_get}
use Rattle.std.specs.List.{filter_map}
use Rattle.std.specs.Option.{is_some}
use Rattle.std.proofs.lemmas.Bool.{cases_lt, cases_eq}
use Rattle.std.proofs.lemmas.Option.{same_Some}
use Rattle.control_file.specs.Wants.{IsListedWant, IsWant}
use Rattle.control_file.specs.declared.want.Want.{Want}
use Rattle.dl_disk.specs.Calls.{Stays}
use Rattle.dl_disk.specs.State.{DiskState}
use Rattle.dl_history.specs.Listings.{Listing}
use Rattle.dl_history.specs.OwnEvents.{OwnEvent, Clears, Checks, Halts}
use Rattle.dl_history.specs.OwnLegal.{LegalOwn, MaySave}
use Rattle.dl_history.specs.PayloadParts.{is_ended, is_verified_in}
use Rattle.dl_kinds.specs.declared.gid.Gid.{Gid}
use Rattle.dl_kinds.specs.declared.runs.Moment.{Moment}
use Rattle.dl_kinds.specs.Counts.{Rose}
use Rattle.durable_progress.specs.Held.{IsHeld}
use Rattle.durable_progress.specs.HeldSteps.{IsHeldNow, StaysHeldOrFinished}
use Rattle.engine_turns.specs.Phases.{DiskFaultEnds, TurnStart}
use Rattle.machine_core.specs.DownloadWants.{HasWant}
use Rattle.machine_core.specs.OwnParts.{own_of}
use Rattle.machine_core.specs.RunLegal.{IsEndCause, IsLegal, IsNewFault, MayFollow, disk_fault_of, download_in, goes_on_in, known_lengths, moment_of_event}
use Rattle.machine_core.specs.Starts.{Download, RunStart}
use Rattle.machine_core.specs.Wanted.{wanted_pieces}
use Rattle.machine_core.specs.declared.ends.End.{End}
use Rattle.machine_core.specs.declared.ends.End.TheVariants as end
use Rattle.machine_core.specs.declared.events.Event.{Event}
use Rattle.machine_core.specs.declared.events.Event.TheVariants.{Checked, Cleared, Ended}
use Rattle.payload_files.specs.Payload.{HasFiles}
use Rattle.resume_core.specs.Causes.{HasStoreCause}
use Rattle.resume_core.specs.declared.fault.StoreErr.{StoreErr}
use Rattle.resume_core.specs.declared.fault.StoreErr.TheVariants as store
use Rattle.resume_core.specs.Openings.{KeepsBesides}
use Rattle.resume_core.specs.Resume.{AreSound, HasDigest}
use Rattle.resume_core.specs.Sharing.{share_names}
use Rattle.resume_core.specs.States.{StaysSound}
use Rattle.resume_core.specs.Steps.{IsFinished}
use Rattle.resume_core.specs.Wants.{files_in}
use Rattle.stored_run.specs.RunFollows.{RunFollows}
use Rattle.stored_run.specs.Steps.{EndsOn, IsStoredApart}
use Rattle.stored_run.specs.Stored.{AreFaultsWithin, AreWantsKept, IsStored, IsStoredRun, IsStoredWith, saved_listing}
use Rattle.stored_run.specs.Views.{GoesOpened, kept_want}
use Rattle.stored_run.specs.declared.run.StoredView.{StoredView}
use Rattle.stored_run.proofs.Doing.{IsGrown, risen}
use Rattle.stored_run.proofs.SaveOne.{verified_matches}
use Rattle.stored_run.proofs.Kept.{IsPlain, after_event, others_still, own_beside, plain_stored}
use Rattle.stored_run.proofs.Single.{IsOwnOf, moved, opens_none, own_then, read_event}

pub ended_own : (gid : Gid) (how : End) → IsOwnOf (Ended gid how) gid (Halts true)
ended_own gid how = record { own = λ start past g. refl; closed = λ own is. is }

pub cleared_own : (gid : Gid) (piece : ℕ) → IsOwnOf (Cleared gid piece) gid (Clears piece)
cleared_own gid piece = record { own = λ start past g. refl; closed = λ own is. is }

pub checked_own : (gid : Gid) (right : Bool) → IsOwnOf (Checked gid right) gid (Checks right)
checked_own gid right = record { own = λ start past g. refl; closed = λ own is. is }

-- ---- a download that goes on may end

going_not_ended : (b c : Bool) → (b ≡ true → c ≡ false) → c ≡ true → b ≡ false
going_not_ended true c falls is = absurd (let f : true ≡ false = sym is ∙ falls refl in cc)
going_not_ended false c falls is = refl

pub unended : RunFollows → (start : RunStart) (past : List Event) (gid : Gid) → IsLegal start past
    → GoesOpened start past gid → is_ended (own_of start past gid) ≡ false
unended laws start past gid legal going =
    going_not_ended (is_ended (own_of start past gid)) (goes_on_in start past gid) (laws.ended start past gid legal)
    going.goes

some_want : (o : Option Want) → is_some o ≡ true → (w : Want) × (o ≡ Some w)
some_want None is = absurd cc
some_want (Some w) is = (w, refl)

-- what is known of a download that goes on
pub record GoingFacts (start : RunStart) (past : List Event) (wants : List (Option Want)) (gid : Gid) : Type 0 where
  pub want : Want
  pub kept : kept_want wants start past gid ≡ Some want
  pub has : HasWant start past gid want

pub going_facts : (start : RunStart) (past : List Event) (wants : List (Option Want)) (gid : Gid)
    → AreWantsKept start past wants → GoesOpened start past gid → GoingFacts start past wants gid
going_facts start past wants gid kept going =
    let some = some_want (kept_want wants start past gid) (kept.opened gid going.opened) in
    record { want = some.0; kept = some.1; has = kept.has gid some.0 some.1 }

pub may_end : RunFollows → (start : RunStart) (past : List Event) (gid : Gid) (download : Download) (how : End)
    → IsLegal start past → GoesOpened start past gid → download_in start past gid ≡ Some download
    → IsEndCause start past download (wanted_pieces download (known_lengths start past gid)) how
    → MayFollow start past (Ended gid how)
may_end laws start past gid download how legal going added cause = record {
  own = record {
    download = download;
    added = added;
    may = λ ends. unended laws start past gid legal going;
  };
  cause = cause;
}

-- ---- faults

faults_below : (xs : List ℕ) (faults count : ℕ) → faults < count → All (λ (earlier : ℕ). earlier ≤ faults) xs
    → All (λ (earlier : ℕ). earlier < count) xs
faults_below xs faults count less all i d within = let low = all i d within in omega arith

pub new_fault : (past : List Event) (before faults : ℕ) → AreFaultsWithin before past → Rose before faults
    → faults < 2 ^ 64 → IsNewFault past faults
new_fault past before faults within rose fits = ⊎_elim
    (λ (less : faults < 2 ^ 64 - 1). inl (faults_below (filter_map disk_fault_of past) before faults (omega (arith, less, rose)) within))
    (λ (most : 2 ^ 64 - 1 ≤ faults). inr (omega (arith, most, fits)))
    (cases_lt faults (2 ^ 64 - 1))

-- a fault of the disk may end it
pub may_fail : RunFollows → (start : RunStart) (past : List Event) (wants : List (Option Want)) (gid : Gid)
    (before faults : ℕ) → IsLegal start past → AreWantsKept start past wants → AreFaultsWithin before past
    → GoesOpened start past gid → Rose before faults → faults < 2 ^ 64
    → MayFollow start past (Ended gid (end.Disk faults))
may_fail laws start past wants gid before faults legal kept within going rose fits =
    let facts = going_facts start past wants gid kept going in
    may_end laws start past gid facts.has.download (end.Disk faults) legal going facts.has.added
    (new_fault past before faults within rose fits)

-- the fault, as a part of a turn tells it
pub fault_ends : (at : TurnStart) (gid : Gid) (before count : ℕ) → at.faults ≤ before → Rose before count
    → count < 2 ^ 64 → DiskFaultEnds at gid (Ended gid (end.Disk count) ∷ [])
fault_ends at gid before count below rose fits = (count, risen at before count below rose fits, refl)

-- ---- the run after it

-- an event that changes nothing of what is stored, while the disk was at most read
pub plain_kept : RunFollows → (tells : Bool) (before faults : ℕ) (old new : DiskState) (start start' : RunStart)
    (past past' : List Event) (wants : List (Option Want)) (now : Moment) (e : Event) (gid : Gid) (x : OwnEvent)
    → IsStoredWith tells before old start past wants now → start' ≡ start → past' ≡ e ∷ past
    → MayFollow start past e → IsOwnOf e gid x → IsPlain x → IfSome (moment_of_event e) (λ m. m.0 ≤ now.0)
    → before ≤ faults → IfSome (disk_fault_of e) (λ count. count ≤ faults) → (IsTrue tells → Stays old new)
    → IsStoredWith tells faults new start' past' wants now
plain_kept laws tells before faults old new start start' past past' wants now e gid x was start_is past_is may own plain moment
    more fault stays =
    moved (λ (s : RunStart) (xs : List Event). IsStoredWith tells faults new s xs wants now) start start' (e ∷ past) past'
    start_is past_is
    (read_event laws tells before faults old new start past wants now e gid x was
    (record {
      may = may;
      own = own;
      moment = moment;
      more = more;
      fault = fault;
      stays = stays;
      here = λ told want goes went kept is. plain_stored want x (own_of start past gid) new plain is;
    }))

-- ---- a finish

-- another download that goes on shares no name with it
pub apart_from : (tells : Bool) (faults : ℕ) (disk : DiskState) (start : RunStart) (past : List Event)
    (wants : List (Option Want)) (now : Moment) (gid : Gid) (want : Want) → IsStoredWith tells faults disk start past wants now
    → GoesOpened start past gid → kept_want wants start past gid ≡ Some want
    → (other : Gid) (w : Want) → GoesOpened start past other → other ≢ gid → kept_want wants start past other ≡ Some w
    → share_names want w ≡ false
apart_from tells faults disk start past wants now gid want was going kept other w goes beside is =
    by (share_names want w) refl
  where
    by : (b : Bool) → share_names want w ≡ b → share_names want w ≡ false
    by true shares = absurd (beside (sym (was.apart gid other want w going goes kept is shares)))
    by false shares = shares

ended_gone : {P : Type 0} → RunFollows → (start : RunStart) (past : List Event) (gid : Gid) (how : End)
    → IsLegal start (Ended gid how ∷ past) → GoesOpened start (Ended gid how ∷ past) gid → P
ended_gone laws start past gid how legal goes =
    let ended : is_ended (own_of start (Ended gid how ∷ past) gid) ≡ true =
    ap is_ended (own_then (Ended gid how) gid (Halts true) start past (ended_own gid how)) in
    let gone = laws.ended start (Ended gid how ∷ past) gid legal ended in
    absurd (let f : true ≡ false = sym goes.goes ∙ gone in cc)

same_gid : (a b : Gid) → a.0 ≡ b.0 → a ≡ b
same_gid a b is = ap (λ (n : ℕ). record { 0 = n }) is

pub end_kept : RunFollows → (tells : Bool) (before faults : ℕ) (old new : DiskState) (start start' : RunStart)
    (past past' : List Event) (wants : List (Option Want)) (now : Moment) (gid : Gid) (how : End) (want : Want)
    → IsStoredWith tells before old start past wants now → start' ≡ start → past' ≡ Ended gid how ∷ past
    → MayFollow start past (Ended gid how) → before ≤ faults
    → IfSome (disk_fault_of (Ended gid how)) (λ count. count ≤ faults) → GoesOpened start past gid
    → kept_want wants start past gid ≡ Some want → (IsTrue tells → KeepsBesides want old new)
    → IsStoredWith tells faults new start' past' wants now
end_kept laws tells before faults old new start start' past past' wants now gid how want was start_is past_is may more fault
    going kept besides =
    moved (λ (s : RunStart) (xs : List Event). IsStoredWith tells faults new s xs wants now) start start'
    (Ended gid how ∷ past) past' start_is past_is
    (after_event laws tells before faults old new start past wants now (Ended gid how) was
    (record {
      may = may;
      none = opens_none (Ended gid how) gid (Halts true) start past (ended_own gid how);
      moment = tt;
      more = more;
      fault = fault;
      still = λ told g w goes went is stored. still told g w goes went is;
    }))
  where
    still : IsTrue tells → (g : Gid) (w : Want) → GoesOpened start (Ended gid how ∷ past) g → GoesOpened start past g
        → kept_want wants start past g ≡ Some w → IsStored w (own_of start (Ended gid how ∷ past) g) new
    still told g w goes went is = ⊎_elim
        (λ (same : g.0 ≡ gid.0).
        ended_gone laws start past gid how (was.legal, may)
        (subst (λ (h : Gid). GoesOpened start (Ended gid how ∷ past) h) (same_gid g gid same) goes))
        (λ (apart : g.0 ≢ gid.0).
        let beside : g ≢ gid = λ same. apart (ap (λ (h : Gid). h.0) same) in
        subst (λ (ys : List OwnEvent). IsStored w ys new)
        (sym (own_beside gid g (Halts true) (own_of start past g) (λ same. beside (sym same))))
        (others_still laws tells before old new start past wants now gid want was told
        (apart_from tells before old start past wants now gid want was going kept) (besides told) g w beside went is))
        (cases_eq g.0 gid.0)

-- a finish for which memory ran out
pub unmade_kept : RunFollows → (tells : Bool) (before faults : ℕ) (old new : DiskState) (start : RunStart)
    (past : List Event) (wants : List (Option Want)) (now : Moment) (gid : Gid) (want : Want)
    → IsStoredWith tells before old start past wants now → faults ≡ before → GoesOpened start past gid
    → kept_want wants start past gid ≡ Some want
    → (IsTrue tells → KeepsBesides want old new)
    → (IsTrue tells → (listing : Listing) → IsHeldNow want listing old → IsHeldNow want listing new)
    → (IsTrue tells → files_in want new.seen ≡ files_in want old.seen)
    → IsStoredWith tells faults new start past wants now
unmade_kept laws tells before faults old new start past wants now gid want was same going kept besides held payload = record {
  legal = was.legal;
  later = was.later;
  wants_are = was.wants_are;
  counted = subst (λ (n : ℕ). AreFaultsWithin n past) (sym same) was.counted;
  apart = was.apart;
  stored = λ told g w goes is. still told g w goes is;
}
  where
    here : IsTrue tells → (w : Want) → kept_want wants start past gid ≡ Some w → IsStored w (own_of start past gid) new
    here told w is =
        let same_want : want ≡ w = same_Some want w (sym kept ∙ is) in
        let stored = was.stored told gid want going kept in
        subst (λ (x : Want). IsStored x (own_of start past gid) new) same_want
        (record {
          held = held told (saved_listing want (own_of start past gid)) stored.held;
          right = λ listed p verified.
              subst (λ (contents : List (Option (List ℕ))).
              (slice_get (saved_listing want (own_of start past gid)).pieces p ≡ Some true) ⊎ HasDigest want contents p)
              (sym (payload told)) (stored.right listed p verified);
        })

    still : IsTrue tells → (g : Gid) (w : Want) → GoesOpened start past g → kept_want wants start past g ≡ Some w
        → IsStored w (own_of start past g) new
    still told g w goes is = ⊎_elim
        (λ (same_n : g.0 ≡ gid.0).
        let at : g ≡ gid = same_gid g gid same_n in
        subst (λ (h : Gid). IsStored w (own_of start past h) new) (sym at)
        (here told w (subst (λ (h : Gid). kept_want wants start past h ≡ Some w) at is)))
        (λ (apart : g.0 ≢ gid.0).
        let beside : g ≢ gid = λ same_g. apart (ap (λ (h : Gid). h.0) same_g) in
        others_still laws tells before old new start past wants now gid want was told
        (apart_from tells before old start past wants now gid want was going kept) (besides told) g w beside goes is)
        (cases_eq g.0 gid.0)

-- what a finish leaves of it
pub finish_ends : {Whole : Type 0} → RunFollows → Whole → (want : Want) → IsWant want → (was own : List OwnEvent)
    (old new : DiskState) → LegalOwn want.plan.total want.plan.piece_len was → IsGrown was own
    → ((p : ℕ) → is_verified_in own p ≡ true → is_verified_in was p ≡ true)
    → ((listing : Listing) → StaysHeldOrFinished want listing old new) → KeepsBesides want old new
    → files_in want new.seen ≡ files_in want old.seen → StaysSound want old new → EndsOn want Whole was own old new
finish_ends laws whole want want_is was own old new legal grown back held besides payload sound = record {
  besides = besides;
  kept = λ stored. record {
    images = λ image left. ⊎_elim
        (λ (is : IsHeld want (saved_listing want was) new.seen image).
        inl (
          was,
          record { first = []; from = refl; rest = grown.0; to = grown.1 },
          inl (laws.give want (saved_listing want was) new.seen image want_is is),
        ))
        (λ (finished : IsFinished want new.seen image). inr (record {
          verified = whole;
          finished = finished;
          right = right_now stored;
        }))
        (held (saved_listing want was) stored.held image left);
    sound = λ all image left. (sound all image left).0;
    right = λ lacks all listed p verified. right_now stored all listed p verified;
  };
}
  where
    right_now : IsStored want was old → AreSound want old.seen old.may_leave → IsListedWant want → (p : ℕ)
        → is_verified_in own p ≡ true → HasDigest want (files_in want new.seen) p
    right_now stored all listed p verified =
        subst (λ (contents : List (Option (List ℕ))). HasDigest want contents p) (sym payload)
        (verified_matches laws want was want_is legal old stored all listed p (back p verified))

-- ---- a save

pub may_save : RunFollows → (start : RunStart) (past : List Event) (gid : Gid) → IsLegal start past
    → GoesOpened start past gid → MaySave (own_of start past gid)
may_save laws start past gid legal going =
    record { opened = going.opened; going = unended laws start past gid legal going }

pub stored_apart : {D : Type 0} (tells : Bool) (faults : ℕ) (disk : DiskState) (r : StoredView D) (gid : Gid)
    → IsStoredRun tells faults disk r → GoesOpened r.machine.start r.machine.past gid → IsTrue tells
    → IsStoredApart r gid disk
stored_apart tells faults disk r gid run going told = record {
  stored = λ want kept. run.stored told gid want going kept;
  apart = λ other v w goes beside kept_v kept_w.
      apart_from tells faults disk r.machine.start r.machine.past r.wants.items r.now gid v run going kept_v other w goes
      beside kept_w;
}

-- ---- a download whose disk is called

-- what every image has of it stands as the disk reads it
pub files_there : {D : Type 0} (tells : Bool) (faults : ℕ) (disk : DiskState) (r : StoredView D) (gid : Gid) (want : Want)
    → IsStoredRun tells faults disk r → GoesOpened r.machine.start r.machine.past gid
    → kept_want r.wants.items r.machine.start r.machine.past gid ≡ Some want → IsTrue tells
    → HasFiles want.dir want.layout disk.seen
files_there tells faults disk r gid want run going kept told =
    ((run.stored told gid want going kept).held disk.seen disk.own_image).files

pub rose_of : {T : Type 0} (before now : ℕ) (result : Result T StoreErr) (err : StoreErr) → HasStoreCause before now result
    → result ≡ Err err → err ≡ store.Disk → Rose before now
rose_of before now result err cause is disk = cause.disk (rw (is, disk) refl)

pub same_of : {T : Type 0} (before now : ℕ) (result : Result T StoreErr) (err : StoreErr) → HasStoreCause before now result
    → result ≡ Err err → err ≡ store.NoMemory → now ≡ before
same_of before now result err cause is none = cause.none (rw (is, none) refl)
