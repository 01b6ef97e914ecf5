-- What is kept of a run and its disk after one more event.
use Rattle.std.proofs.Common.{◌≡◌, ◌≢◌, ◌≤◌, ℕ, Bool, true, false, Option, Some, None, List, [], ◌∷◌, ◌⊎◌, inl, inr, ⊎_elim, length, refl, sym, ap, ◌∙◌, subst, arith}
use Rattle.std.specs.Prelude.{All, IfSome, IsTrue, slice_get}
use Rattle.std.specs.List.{cons_option, filter_map}
use Rattle.std.specs.Option.{is_some, option_and_then}
use Rattle.std.proofs.lemmas.Bool.{eq-eqb, eqb-true}
use Rattle.std.proofs.lemmas.List.Elements.{All-cons, All-head, All-nil, All-tail}
use Rattle.std.proofs.lemmas.Option.{slice_get_past}
use Rattle.control_file.specs.declared.want.Want.{Want}
use Rattle.dl_disk.specs.Passes.{image_before}
use Rattle.dl_disk.specs.State.{DiskState}
use Rattle.dl_history.specs.Listings.{Listing}
use Rattle.dl_history.specs.OwnEvents.{OwnEvent, Grants, Lands, Clears, Loses, Sizes, Checks, Halts}
use Rattle.dl_history.specs.PayloadParts.{is_opened}
use Rattle.dl_kinds.specs.declared.claims.Claim.{Claim}
use Rattle.dl_kinds.specs.declared.gid.Gid.{Gid}
use Rattle.dl_kinds.specs.declared.marks.Mark.{Mark}
use Rattle.dl_kinds.specs.declared.runs.Moment.{Moment}
use Rattle.dl_kinds.specs.declared.runs.Run.{Run}
use Rattle.durable_progress.specs.Held.{IsHeld}
use Rattle.durable_progress.specs.HeldSteps.{IsHeldNow}
use Rattle.durable_progress.specs.SharingLaws.{ChangesBeside}
use Rattle.machine_core.specs.DownloadWants.{HasWant}
use Rattle.machine_core.specs.MachineViews.{place_in}
use Rattle.machine_core.specs.OwnParts.{own_of, with_own}
use Rattle.machine_core.specs.Replays.{is_same_gid, replay_of}
use Rattle.machine_core.specs.RunLegal.{IsLaterThan, IsLegal, MayFollow, disk_fault_of, download_in, goes_on_in, moment_of_event}
use Rattle.machine_core.specs.Starts.{Download, RunStart}
use Rattle.machine_core.specs.declared.events.Event.{Event}
use Rattle.resume_core.specs.Openings.{KeepsBesides}
use Rattle.resume_core.specs.Resume.{HasDigest}
use Rattle.resume_core.specs.Sharing.{share_names}
use Rattle.resume_core.specs.Steps.{SameBesides}
use Rattle.resume_core.specs.Wants.{files_in}
use Rattle.stored_run.specs.RunFollows.{RunFollows}
use Rattle.stored_run.specs.Stored.{AreFaultsWithin, AreWantsKept, IsStored, IsStoredWith, saved_listing}
use Rattle.stored_run.specs.Views.{GoesOpened, kept_want}
use Rattle.stored_run.proofs.Doing.{opened_grown, own_grows}

-- ---- wants

found_or_not : (o : Option Download) → ((d : Download) × (o ≡ Some d)) ⊎ (o ≡ None)
found_or_not None = inr refl
found_or_not (Some d) = inl (d, refl)

-- no want stands at a place behind them all
pub none_behind : (wants : List (Option Want)) (n : ℕ) → length wants ≤ n
    → option_and_then (λ (w : Option Want). w) (slice_get wants n) ≡ None
none_behind wants n past = ap (option_and_then (λ (w : Option Want). w)) (slice_get_past wants n past)

-- the want that stands at a place
pub kept_at : (wants : List (Option Want)) (n : ℕ) (w : Option Want) → slice_get wants n ≡ Some w
    → option_and_then (λ (w : Option Want). w) (slice_get wants n) ≡ w
kept_at wants n w is = ap (option_and_then (λ (w : Option Want). w)) is

pub same_place : (wants : List (Option Want)) (m n : ℕ) → m ≡ n
    → option_and_then (λ (w : Option Want). w) (slice_get wants m)
    ≡ option_and_then (λ (w : Option Want). w) (slice_get wants n)
same_place wants m n is = ap (λ (i : ℕ). option_and_then (λ (w : Option Want). w) (slice_get wants i)) is

-- a want that is kept then was kept before
pub kept_before : RunFollows → (start : RunStart) (past : List Event) (e : Event) (wants : List (Option Want)) (gid : Gid) (want : Want)
    → length wants ≤ length (replay_of start past).downloads → kept_want wants start (e ∷ past) gid ≡ Some want
    → kept_want wants start past gid ≡ Some want
kept_before laws start past e wants gid want few is =
    ⊎_elim
    (λ found. sym (same_place wants (place_in start (e ∷ past) gid) (place_in start past gid) (laws.places start past e gid found.0 found.1)) ∙ is)
    (λ none.
    let behind = laws.behind start past e gid none in
    let gone = none_behind wants (place_in start (e ∷ past) gid) (omega arith) in
    absurd (let f : None ≡ Some want = sym gone ∙ is in cc))
    (found_or_not (download_in start past gid))

-- and one that is kept is kept still
pub kept_then : RunFollows → (start : RunStart) (past : List Event) (e : Event) (wants : List (Option Want)) (gid : Gid) (want : Want)
    → HasWant start past gid want → kept_want wants start past gid ≡ Some want
    → kept_want wants start (e ∷ past) gid ≡ Some want
kept_then laws start past e wants gid want has is =
    same_place wants (place_in start (e ∷ past) gid) (place_in start past gid) (laws.places start past e gid has.download has.added) ∙ is

pub some_of : (o : Option Want) → is_some o ≡ true → (w : Want) × (o ≡ Some w)
some_of None is = absurd cc
some_of (Some w) is = (w, refl)

-- the event opens no download
abbrev pub OpensNone : RunStart → List Event → Event → Type 0
OpensNone start past e =
    (gid : Gid) → is_opened (own_of start (e ∷ past) gid) ≡ true → is_opened (own_of start past gid) ≡ true

pub wants_after : RunFollows → (start : RunStart) (past : List Event) (e : Event) (wants : List (Option Want))
    → IsLegal start (e ∷ past) → OpensNone start past e → AreWantsKept start past wants
    → AreWantsKept start (e ∷ past) wants
wants_after laws start past e wants legal none kept =
    record {
      few = let more = laws.none start past e in let few = kept.few in omega arith;
      has = λ gid want is.
          laws.wants start past e gid want legal
          (kept.has gid want (kept_before laws start past e wants gid want kept.few is));
      sound = λ gid want is. kept.sound gid want (kept_before laws start past e wants gid want kept.few is);
      opened = λ gid is.
          let some = some_of (kept_want wants start past gid) (kept.opened gid (none gid is)) in
          ap is_some (kept_then laws start past e wants gid some.0 (kept.has gid some.0 some.1) some.1);
      only = λ gid want is. opened_grown (own_of start past gid) (own_of start (e ∷ past) gid)
          (own_grows start e past gid)
          (kept.only gid want (kept_before laws start past e wants gid want kept.few is));
    }

going_where : (b c : Bool) → (b ≡ false → c ≡ false) → c ≡ true → b ≡ true
going_where true c falls is = refl
going_where false c falls is = absurd (let f = falls refl in cc)

-- what goes on then went on before
pub going_before : RunFollows → (start : RunStart) (past : List Event) (e : Event) (wants : List (Option Want)) (gid : Gid)
    → AreWantsKept start past wants → OpensNone start past e → GoesOpened start (e ∷ past) gid → GoesOpened start past gid
going_before laws start past e wants gid kept none going =
    let opened = none gid going.opened in
    let some = some_of (kept_want wants start past gid) (kept.opened gid opened) in
    let has = kept.has gid some.0 some.1 in
    record {
      opened = opened;
      goes = going_where (goes_on_in start past gid) (goes_on_in start (e ∷ past) gid)
          (laws.gone start past e gid has.download has.added) going.goes;
    }

-- ---- one event

later_by : (o : Option Moment) (xs : List Moment) (now : Moment) → IfSome o (λ m. m.0 ≤ now.0)
    → All (λ (earlier : Moment). earlier.0 ≤ now.0) xs
    → All (λ (earlier : Moment). earlier.0 ≤ now.0) (cons_option o xs)
later_by None xs now is rest = rest
later_by (Some m) xs now is rest = All-cons (λ (earlier : Moment). earlier.0 ≤ now.0) m xs is rest

pub later_after : (past : List Event) (e : Event) (now : Moment) → IfSome (moment_of_event e) (λ m. m.0 ≤ now.0)
    → IsLaterThan past now → IsLaterThan (e ∷ past) now
later_after past e now is later = later_by (moment_of_event e) (filter_map moment_of_event past) now is later

pub within_more : (xs : List ℕ) (low high : ℕ) → low ≤ high → All (λ (count : ℕ). count ≤ low) xs
    → All (λ (count : ℕ). count ≤ high) xs
within_more [] low high more all = All-nil (λ (count : ℕ). count ≤ high)
within_more (x ∷ xs) low high more all =
    let first : x ≤ low = All-head (λ (count : ℕ). count ≤ low) x xs all in
    All-cons (λ (count : ℕ). count ≤ high) x xs (omega arith)
    (within_more xs low high more (All-tail (λ (count : ℕ). count ≤ low) x xs all))

counted_by : (o : Option ℕ) (xs : List ℕ) (faults : ℕ) → IfSome o (λ count. count ≤ faults)
    → All (λ (count : ℕ). count ≤ faults) xs → All (λ (count : ℕ). count ≤ faults) (cons_option o xs)
counted_by None xs faults is rest = rest
counted_by (Some count) xs faults is rest = All-cons (λ (count : ℕ). count ≤ faults) count xs is rest

pub counted_after : (past : List Event) (e : Event) (before faults : ℕ) → before ≤ faults
    → IfSome (disk_fault_of e) (λ count. count ≤ faults) → AreFaultsWithin before past → AreFaultsWithin faults (e ∷ past)
counted_after past e before faults more is all =
    counted_by (disk_fault_of e) (filter_map disk_fault_of past) faults is
    (within_more (filter_map disk_fault_of past) before faults more all)

-- what is asked of an event that comes while calls of the disk take it from one state to another
pub record EventKeeps (tells : Bool) (before faults : ℕ) (old new : DiskState) (start : RunStart) (past : List Event)
    (wants : List (Option Want)) (now : Moment) (e : Event) : Type 0 where
  pub may : MayFollow start past e
  pub none : OpensNone start past e
  pub moment : IfSome (moment_of_event e) (λ m. m.0 ≤ now.0)
  pub more : before ≤ faults
  pub fault : IfSome (disk_fault_of e) (λ count. count ≤ faults)
  pub still : IsTrue tells → (gid : Gid) (want : Want) → GoesOpened start (e ∷ past) gid → GoesOpened start past gid
      → kept_want wants start past gid ≡ Some want → IsStored want (own_of start past gid) old
      → IsStored want (own_of start (e ∷ past) gid) new

pub after_event : RunFollows → (tells : Bool) (before faults : ℕ) (old new : DiskState) (start : RunStart) (past : List Event)
    (wants : List (Option Want)) (now : Moment) (e : Event)
    → IsStoredWith tells before old start past wants now → EventKeeps tells before faults old new start past wants now e
    → IsStoredWith tells faults new start (e ∷ past) wants now
after_event laws tells before faults old new start past wants now e was keeps =
    let few = was.wants_are.few in
    record {
      legal = (was.legal, keeps.may);
      later = later_after past e now keeps.moment was.later;
      wants_are = wants_after laws start past e wants (was.legal, keeps.may) keeps.none was.wants_are;
      counted = counted_after past e before faults keeps.more keeps.fault was.counted;
      apart = λ one other v w goes_one goes_other is_one is_other shares.
          was.apart one other v w
          (going_before laws start past e wants one was.wants_are keeps.none goes_one)
          (going_before laws start past e wants other was.wants_are keeps.none goes_other)
          (kept_before laws start past e wants one v few is_one)
          (kept_before laws start past e wants other w few is_other) shares;
      stored = λ told gid want goes is.
          let went = going_before laws start past e wants gid was.wants_are keeps.none goes in
          let had = kept_before laws start past e wants gid want few is in
          keeps.still told gid want goes went had (was.stored told gid want went had);
    }

-- ---- own events that change nothing that is stored

-- it neither opens, saves nor settles
pub data IsPlain : OwnEvent → Type 0 where
  grants : (claim : Claim) → IsPlain (Grants claim)
  lands : (id mirror : ℕ) (run : Run) → IsPlain (Lands id mirror run)
  clears : (piece : ℕ) → IsPlain (Clears piece)
  loses : (id mirror piece : ℕ) (mark : Mark) → IsPlain (Loses id mirror piece mark)
  sizes : (id total : ℕ) → IsPlain (Sizes id total)
  checks : (right : Bool) → IsPlain (Checks right)
  halts : (ends : Bool) → IsPlain (Halts ends)

pub plain_stored : (want : Want) (x : OwnEvent) (own : List OwnEvent) (disk : DiskState) → IsPlain x
    → IsStored want own disk → IsStored want (x ∷ own) disk
plain_stored want x own disk (grants claim) is = record { held = is.held; right = is.right }
plain_stored want x own disk (lands id mirror run) is = record { held = is.held; right = is.right }
plain_stored want x own disk (clears piece) is = record { held = is.held; right = is.right }
plain_stored want x own disk (loses id mirror piece mark) is = record { held = is.held; right = is.right }
plain_stored want x own disk (sizes id total) is = record { held = is.held; right = is.right }
plain_stored want x own disk (checks right) is = record { held = is.held; right = is.right }
plain_stored want x own disk (halts ends) is = record { held = is.held; right = is.right }

pub plain_opened : (x : OwnEvent) (own : List OwnEvent) → IsPlain x → is_opened (x ∷ own) ≡ true → is_opened own ≡ true
plain_opened x own (grants claim) is = is
plain_opened x own (lands id mirror run) is = is
plain_opened x own (clears piece) is = is
plain_opened x own (loses id mirror piece mark) is = is
plain_opened x own (sizes id total) is = is
plain_opened x own (checks right) is = is
plain_opened x own (halts ends) is = is

-- of the download that the event concerns, and of no other
pub own_where : (P : List OwnEvent → Type 0) (concerned gid : Gid) (x : OwnEvent) (own : List OwnEvent)
    → (concerned ≡ gid → P (x ∷ own)) → P own → P (with_own concerned gid x own)
own_where P concerned gid x own here other = by (is_same_gid gid concerned) refl
  where
    by : (b : Bool) → is_same_gid gid concerned ≡ b → P (with_own concerned gid x own)
    by true is = rw is (here (ap (λ (n : ℕ). record { 0 = n }) (eqb-true concerned.0 gid.0 is)))
    by false is = rw is other

pub own_at : (gid : Gid) (x : OwnEvent) (own : List OwnEvent) → with_own gid gid x own ≡ x ∷ own
own_at gid x own = rw (eq-eqb gid.0 gid.0 refl) refl

pub own_beside : (concerned gid : Gid) (x : OwnEvent) (own : List OwnEvent) → concerned ≢ gid
    → with_own concerned gid x own ≡ own
own_beside concerned gid x own apart =
    own_where (λ (ys : List OwnEvent). ys ≡ own) concerned gid x own (λ same. absurd (apart same)) refl

-- ---- other downloads

-- the files of a want that shares no name are as they were
pub same_beside : RunFollows → (want other : Want) (old new : DiskState) → share_names want other ≡ false
    → KeepsBesides want old new → files_in other new.seen ≡ files_in other old.seen
same_beside laws want other old new apart keeps =
    (laws.files want other old.seen new.seen (record { apart = apart; besides = keeps.seen })).files

pub held_beside : RunFollows → (want other : Want) (listing : Listing) (old new : DiskState)
    → share_names want other ≡ false → KeepsBesides want old new → IsHeldNow other listing old
    → IsHeldNow other listing new
held_beside laws want other listing old new apart keeps held image left =
    let from = image_before (SameBesides want) old new keeps.passes image left in
    let beside : ChangesBeside want other from.0 image = record { apart = apart; besides = from.2 } in
    let there : IsHeld other listing old.seen image =
    laws.same other listing old.seen from.0 image (laws.files want other from.0 image beside) (held from.0 from.1) in
    let seen : ChangesBeside want other old.seen new.seen = record { apart = apart; besides = keeps.seen } in
    let stays : ChangesBeside want other image image = record { apart = apart; besides = λ name beside. refl } in
    record {
      control = there.control;
      lists = there.lists;
      bytes = there.bytes;
      files = there.files;
      agrees = laws.agree want other old.seen new.seen image image seen stays there.agrees;
    }

pub stored_beside : RunFollows → (want other : Want) (own : List OwnEvent) (old new : DiskState)
    → share_names want other ≡ false → KeepsBesides want old new → IsStored other own old → IsStored other own new
stored_beside laws want other own old new apart keeps is =
    record {
      held = held_beside laws want other (saved_listing other own) old new apart keeps is.held;
      right = λ listed p verified.
          subst (λ (contents : List (Option (List ℕ))). (slice_get (saved_listing other own).pieces p ≡ Some true) ⊎ HasDigest other contents p)
          (sym (same_beside laws want other old new apart keeps)) (is.right listed p verified);
    }

-- what is told of one download and done on the disk for it leaves the others stored
pub others_still : RunFollows → (tells : Bool) (faults : ℕ) (old new : DiskState) (start : RunStart) (past : List Event)
    (wants : List (Option Want)) (now : Moment) (gid : Gid) (want : Want)
    → IsStoredWith tells faults old start past wants now → IsTrue tells
    → ((other : Gid) (w : Want) → GoesOpened start past other → other ≢ gid → kept_want wants start past other ≡ Some w
    → share_names want w ≡ false)
    → KeepsBesides want old new → (other : Gid) (w : Want) → other ≢ gid → GoesOpened start past other
    → kept_want wants start past other ≡ Some w → IsStored w (own_of start past other) new
others_still laws tells faults old new start past wants now gid want was told apart keeps other w beside goes is =
    stored_beside laws want w (own_of start past other) old new (apart other w goes beside is) keeps
    (was.stored told other w goes is)
