-- What a single event of a download, and calls that only read, leave of a run and its disk.
use Rattle.std.proofs.Common.{◌≡◌, ◌≤◌, ℕ, zero, suc, Bool, true, false, Option, Some, List, [], ◌∷◌, ◌++◌, ◌⊎◌, inl, refl, sym, ap, ◌∙◌, subst, arith}
use Rattle.std.specs.Prelude.{◌||◌, Contains, IfSome, IsSome, IsTrue, slice_get}
use Rattle.control_file.specs.Wants.{IsWant}
use Rattle.control_file.specs.declared.want.Want.{Want}
use Rattle.dl_disk.specs.Calls.{Stays}
use Rattle.dl_disk.specs.Files.{Files, IsSame}
use Rattle.dl_disk.specs.Passes.{Passes, passes_none, passes_wider}
use Rattle.dl_disk.specs.State.{DiskState}
use Rattle.dl_history.specs.OwnEvents.{OwnEvent}
use Rattle.dl_history.specs.PayloadParts.{is_opened, is_opening}
use Rattle.dl_kinds.specs.declared.gid.Gid.{Gid}
use Rattle.dl_kinds.specs.declared.runs.Moment.{Moment}
use Rattle.durable_progress.specs.Held.{IsHeld}
use Rattle.engine_turns.proofs.Faults.{counts_later}
use Rattle.engine_turns.specs.Faults.{CountsFaults}
use Rattle.engine_turns.specs.Phases.{Did, Phase}
use Rattle.engine_turns.specs.declared.outcome.Outcome.{Outcome}
use Rattle.machine_core.specs.OwnParts.{own_of, with_own}
use Rattle.machine_core.specs.RunLegal.{MayFollow, disk_fault_of, goes_on_in, moment_of_event}
use Rattle.machine_core.specs.Starts.{RunStart}
use Rattle.machine_core.specs.declared.ends.End.TheVariants as end
use Rattle.machine_core.specs.declared.events.Event.{Event}
use Rattle.machine_core.specs.declared.events.Event.TheVariants.{Ended}
use Rattle.resume_core.proofs.Filed.{files_kept}
use Rattle.resume_core.proofs.Same.{agrees_seen, sound_same}
use Rattle.resume_core.specs.Resume.{HasDigest}
use Rattle.resume_core.specs.Steps.{SameBesides, SameFor}
use Rattle.resume_core.specs.Wants.{control_name}
use Rattle.stored_run.specs.RunFollows.{RunFollows}
use Rattle.stored_run.specs.Steps.{StoresOn}
use Rattle.stored_run.specs.Stored.{AreFaultsWithin, IsStored, IsStoredWith, saved_listing}
use Rattle.stored_run.specs.Views.{GoesOpened, kept_want}
use Rattle.stored_run.proofs.Doing.{held_control}
use Rattle.stored_run.proofs.Kept.{OpensNone, after_event, own_at, own_where}

-- ---- what is done by one event or none

pub did_one : (P : ℕ → Phase) (past : List Event) (faults : ℕ) (new : List Event) (faults_after : ℕ) (outcome : Outcome)
    (e : Event) → new ≡ e ∷ past → CountsFaults faults (e ∷ []) faults_after
    → ((from : ℕ) → from ≤ faults → P from past (e ∷ []) outcome) → Did P past faults new faults_after outcome
did_one P past faults new faults_after outcome e grown counts is = record {
  events = e ∷ [];
  grown = grown;
  is = is;
  later = counts_later faults faults_after (e ∷ []) counts;
  counts = counts;
}

pub did_none : (P : ℕ → Phase) (past : List Event) (faults faults_after : ℕ) (outcome : Outcome) → faults_after ≡ faults
    → ((from : ℕ) → from ≤ faults → P from past [] outcome) → Did P past faults past faults_after outcome
did_none P past faults faults_after outcome still is = record {
  events = [];
  grown = refl;
  is = is;
  later = omega (arith, still);
  counts = still;
}

-- ---- one event of a download

-- the event of the run is this one of the download
pub record IsOwnOf (e : Event) (gid : Gid) (x : OwnEvent) : Type 0 where
  pub own : (start : RunStart) (past : List Event) (g : Gid)
      → own_of start (e ∷ past) g ≡ with_own gid g x (own_of start past g)
  pub closed : (own : List OwnEvent) → is_opened (x ∷ own) ≡ true → is_opened own ≡ true

pub own_then : (e : Event) (gid : Gid) (x : OwnEvent) (start : RunStart) (past : List Event) → IsOwnOf e gid x
    → own_of start (e ∷ past) gid ≡ x ∷ own_of start past gid
own_then e gid x start past is = is.own start past gid ∙ own_at gid x (own_of start past gid)

pub opens_none : (e : Event) (gid : Gid) (x : OwnEvent) (start : RunStart) (past : List Event) → IsOwnOf e gid x
    → OpensNone start past e
opens_none e gid x start past is g opened =
    own_where (λ (ys : List OwnEvent). is_opened ys ≡ true → is_opened (own_of start past g) ≡ true) gid g x
    (own_of start past g) (λ same. is.closed (own_of start past g)) (λ h. h)
    (subst (λ (ys : List OwnEvent). is_opened ys ≡ true) (is.own start past g) opened)

-- ---- reads

pub same_read : (want : Want) (old new : Files) → IsSame old new → SameFor want old new
same_read want old new same =
    record { control = same (control_name want); files = files_kept want old new same }

pub stored_read : (want : Want) (own : List OwnEvent) (old new : DiskState) → Stays old new → IsStored want own old
    → IsStored want own new
stored_read want own old new stays is = record {
  held = λ image left.
      let there = is.held image (stays.images image left) in
      record {
        control = there.control;
        lists = there.lists;
        bytes = there.bytes;
        files = there.files;
        agrees = agrees_seen want old.seen new.seen image (files_kept want old.seen new.seen stays.seen) there.agrees;
      };
  right = λ listed p verified.
      subst (λ (contents : List (Option (List ℕ))). (slice_get (saved_listing want own).pieces p ≡ Some true)
      ⊎ HasDigest want contents p)
      (sym (files_kept want old.seen new.seen stays.seen)) (is.right listed p verified);
}

-- what only reads leaves each image as it was
pub read_stores : RunFollows → (want : Want) → IsWant want → (was rest : List OwnEvent) (old new : DiskState)
    → Stays old new → Passes IsSame old new → StoresOn want was (rest ++ was) old new
read_stores laws want want_is was rest old new stays passes = record {
  besides = record {
    seen = λ name beside. stays.seen name;
    passes = passes_wider IsSame (SameBesides want) old new (λ x y same name beside. same name) passes;
  };
  kept = λ is. record {
    images = λ image left.
        let from = passes.images left.0 image left.1 left.2 left.3 in
        let held : IsHeld want (saved_listing want was) old.seen image =
        laws.same want (saved_listing want was) old.seen from.0 image (same_read want from.0 image from.2)
        (is.held from.0 from.1) in (
          was,
          record { first = []; from = refl; rest = rest; to = refl },
          inl (laws.give want (saved_listing want was) old.seen image want_is held),
        );
    sound = λ sound image left.
        let from = passes.images left.0 image left.1 left.2 left.3 in
        sound_same want from.0 image (same_read want from.0 image from.2) (sound from.0 from.1).0;
    control =
        subst (λ (o : Option (List ℕ)). IsSome o) (sym (stays.seen (control_name want)))
        (held_control want (saved_listing want was) old.seen old.seen (is.held old.seen old.own_image));
  };
}

pub stays_here : (disk : DiskState) → Stays disk disk
stays_here disk = record { seen = λ name. refl; images = λ image left. left }

pub same_here : (disk : DiskState) → Passes IsSame disk disk
same_here disk = passes_none IsSame disk (λ image name. refl)

-- ---- a run after an event of a download, where the disk was at most read

pub record EventReads (tells : Bool) (before faults : ℕ) (old new : DiskState) (start : RunStart) (past : List Event)
    (wants : List (Option Want)) (now : Moment) (e : Event) (gid : Gid) (x : OwnEvent) : Type 0 where
  pub may : MayFollow start past e
  pub own : IsOwnOf e gid x
  pub moment : IfSome (moment_of_event e) (λ m. m.0 ≤ now.0)
  pub more : before ≤ faults
  pub fault : IfSome (disk_fault_of e) (λ count. count ≤ faults)
  pub stays : IsTrue tells → Stays old new
  pub here : IsTrue tells → (want : Want) → GoesOpened start (e ∷ past) gid → GoesOpened start past gid
      → kept_want wants start past gid ≡ Some want
      → IsStored want (own_of start past gid) new → IsStored want (x ∷ own_of start past gid) new

pub read_event : RunFollows → (tells : Bool) (before faults : ℕ) (old new : DiskState) (start : RunStart)
    (past : List Event) (wants : List (Option Want)) (now : Moment) (e : Event) (gid : Gid) (x : OwnEvent)
    → IsStoredWith tells before old start past wants now
    → EventReads tells before faults old new start past wants now e gid x
    → IsStoredWith tells faults new start (e ∷ past) wants now
read_event laws tells before faults old new start past wants now e gid x was reads =
    after_event laws tells before faults old new start past wants now e was
    (record {
      may = reads.may;
      none = opens_none e gid x start past reads.own;
      moment = reads.moment;
      more = reads.more;
      fault = reads.fault;
      still = λ told g want goes went kept is.
          let there = stored_read want (own_of start past g) old new (reads.stays told) is in
          subst (λ (ys : List OwnEvent). IsStored want ys new) (sym (reads.own.own start past g))
          (own_where (λ (ys : List OwnEvent). IsStored want ys new) gid g x (own_of start past g)
          (λ same. stored_at laws told g want goes went kept there same) there);
    })
  where
    stored_at : RunFollows → IsTrue tells → (g : Gid) (want : Want) → GoesOpened start (e ∷ past) g
        → GoesOpened start past g → kept_want wants start past g ≡ Some want
        → IsStored want (own_of start past g) new → gid ≡ g → IsStored want (x ∷ own_of start past g) new
    stored_at laws told g want goes went kept there same =
        subst (λ (h : Gid). IsStored want (x ∷ own_of start past h) new) same
        (reads.here told want
        (subst (λ (h : Gid). GoesOpened start (e ∷ past) h) (sym same) goes)
        (subst (λ (h : Gid). GoesOpened start past h) (sym same) went)
        (subst (λ (h : Gid). kept_want wants start past h ≡ Some want) (sym same) kept)
        (subst (λ (h : Gid). IsStored want (own_of start past h) new) (sym same) there))

-- no event, after reads
pub read_run : (tells : Bool) (before faults : ℕ) (old new : DiskState) (start : RunStart) (past : List Event)
    (wants : List (Option Want)) (now : Moment) → IsStoredWith tells before old start past wants now
    → before ≡ faults → (IsTrue tells → Stays old new) → IsStoredWith tells faults new start past wants now
read_run tells before faults old new start past wants now was same stays = record {
  legal = was.legal;
  later = was.later;
  wants_are = was.wants_are;
  counted = subst (λ (n : ℕ). AreFaultsWithin n past) same was.counted;
  apart = was.apart;
  stored = λ told gid want goes kept.
      stored_read want (own_of start past gid) old new (stays told) (was.stored told gid want goes kept);
}

-- ---- what holds after an event, of the run after it

pub moved : (P : RunStart → List Event → Type 0) (start start' : RunStart) (past past' : List Event) → start' ≡ start
    → past' ≡ past → P start past → P start' past'
moved P start start' past past' start_is past_is holds =
    subst (λ (s : RunStart). P s past') (sym start_is) (subst (λ (xs : List Event). P start xs) (sym past_is) holds)

or_true : (a b : Bool) → b ≡ true → (a || b) ≡ true
or_true true b is = refl
or_true false b is = is

pub opened_more : (x : OwnEvent) (own : List OwnEvent) → is_opened own ≡ true → is_opened (x ∷ own) ≡ true
opened_more x own is = or_true (is_opening x) (is_opened own) is

-- the download goes on, where the event leaves the queue as it was
pub goes_then : (e : Event) (gid : Gid) (x : OwnEvent) (start : RunStart) (past : List Event) → IsOwnOf e gid x
    → goes_on_in start (e ∷ past) gid ≡ goes_on_in start past gid → GoesOpened start past gid
    → GoesOpened start (e ∷ past) gid
goes_then e gid x start past own queue going = record {
  opened = ap is_opened (own_then e gid x start past own)
      ∙ opened_more x (own_of start past gid) going.opened;
  goes = queue ∙ going.goes;
}
