-- What is left of a download on the disk, once a turn is taken.
use Rattle.std.proofs.Common.{◌≡◌, ⊎_elim, inl, inr, ℕ, Bool, true, false, List, [], ◌∷◌, ◌++◌, Some, None, refl, sym, ap, ◌∙◌, subst}
use Rattle.std.specs.Prelude.{◌⊎◌, ◌+◌, Option, Contains, slice_get}
use Rattle.std.proofs.lemmas.Bool.{eqb-true}
use Rattle.std.proofs.lemmas.List.{append_cancel_right}
use Rattle.std.proofs.lemmas.List.Elements.{Contains-append_left, Contains-append_right, Contains-push}
use Rattle.control_file.specs.Wants.{IsListedWant, IsWant}
use Rattle.control_file.specs.declared.want.Want.{Want}
use Rattle.dl_disk.specs.Files.{Files}
use Rattle.dl_disk.specs.State.{DiskState}
use Rattle.dl_kinds.specs.Plan.{block_start}
use Rattle.dl_kinds.specs.declared.gid.Gid.{Gid}
use Rattle.dl_history.specs.Listings.{Listing, listing_in}
use Rattle.dl_history.specs.OwnEvents.{OwnEvent}
use Rattle.dl_history.specs.OwnLegal.{LegalOwn}
use Rattle.dl_history.specs.PayloadParts.{is_ended, is_ending, is_opened, is_verified_in}
use Rattle.dl_history.proofs.Bools.{or_cases, or_right}
use Rattle.durable_progress.specs.Held.{GivesListing, IsHeld, IsHeldByEither}
use Rattle.durable_progress.specs.Promises.{GivesPromised, StandsWhole, is_piece_promised, is_piece_saved}
use Rattle.durable_progress.specs.PromiseLaws.{IsOpenedOwn}
use Rattle.durable_progress.proofs.Promised.{legal_before, listed_verified, listing_promised, pieces_stay, saved_verified, verified_later, verified_listed}
use Rattle.machine_core.specs.DownloadWants.{HasWant}
use Rattle.machine_core.specs.OwnParts.{own_of}
use Rattle.machine_core.proofs.Steps.{own_here}
use Rattle.machine_core.specs.RunLegal.{IsLegal, goes_on_in}
use Rattle.machine_core.specs.Starts.{RunStart}
use Rattle.machine_core.specs.declared.ends.End.TheVariants as end
use Rattle.machine_core.specs.declared.events.Event.{Event}
use Rattle.machine_core.specs.declared.events.Event.TheVariants.{Called, Opened, Sized, Claimed, Landed, Settled, Cleared, Lost, Checked, Saved, Ended, Left, Stopped}
use Rattle.engine_turns.specs.Told.{RunTurn, history_of}
use Rattle.resume_core.specs.Openings.{LacksControl}
use Rattle.resume_core.specs.Resume.{Agrees, byte_at, AreSound, HasDigest, ResumesPiece, Sound}
use Rattle.resume_core.specs.Steps.{IsFinished}
use Rattle.resume_core.specs.Wants.{control_name, files_in}
use Rattle.stored_run.specs.Leavings.{IsLeftIn}
use Rattle.stored_run.specs.RunFollows.{RunFollows}
use Rattle.stored_run.specs.Steps.{GivesSaved, IsLeftStored}
use Rattle.stored_run.specs.Stored.{saved_listing}
use Rattle.stored_run.specs.Views.{IsDoneIn}
use Rattle.stored_run.proofs.Doing.{own_grows}
use Rattle.stored_run.proofs.Own.{own_legal}
use Rattle.engine_core.specs.Askings.{IsAskedLater, IsDoneSince, IsReopened, is_completed_in, is_completion}
use Rattle.engine_core.specs.Durable.{GivesOrStands, GivesSaves, Holds}

-- ---- ends that are told

completion_is : (gid : Gid) (e : Event) → is_completion gid e ≡ true → e ≡ Ended gid end.Complete
completion_is gid (Ended other end.Complete) is =
    let same : other ≡ gid = ap (λ (n : ℕ). record { 0 = n }) (eqb-true other.0 gid.0 is) in
    ap (λ (g : Gid). Ended g end.Complete) same
completion_is gid (Ended other (end.Dead piece mark)) is = absurd cc
completion_is gid (Ended other (end.Disk count)) is = absurd cc
completion_is gid (Ended other (end.Exists length)) is = absurd cc
completion_is gid (Ended other (end.PieceLength have piece_len)) is = absurd cc
completion_is gid (Ended other (end.Length have total)) is = absurd cc
completion_is gid (Ended other end.InfoHash) is = absurd cc
completion_is gid (Ended other (end.Unreadable at)) is = absurd cc
completion_is gid (Ended other (end.TooLarge total)) is = absurd cc
completion_is gid (Ended other (end.SameFile twin)) is = absurd cc
completion_is gid (Ended other (end.SameHash twin)) is = absurd cc
completion_is gid (Ended other end.Checksum) is = absurd cc
completion_is gid (Called session asked now) is = absurd cc
completion_is gid (Opened other verified blocks now) is = absurd cc
completion_is gid (Sized other id total) is = absurd cc
completion_is gid (Claimed other claim) is = absurd cc
completion_is gid (Landed other id mirror run now) is = absurd cc
completion_is gid (Settled other piece right giver) is = absurd cc
completion_is gid (Cleared other piece) is = absurd cc
completion_is gid (Lost other id mirror piece mark) is = absurd cc
completion_is gid (Checked other right) is = absurd cc
completion_is gid (Saved other now) is = absurd cc
completion_is gid Left is = absurd cc
completion_is gid Stopped is = absurd cc

pub completion_there : (gid : Gid) (past : List Event) → is_completed_in past gid ≡ true
    → Contains past (Ended gid end.Complete)
completion_there gid [] is = absurd cc
completion_there gid (e ∷ past) is = or_cases (is_completion gid e) (is_completed_in past gid) is
    (λ here. subst (λ (x : Event). Contains (e ∷ past) x) (completion_is gid e here)
    (Contains-append_left (e ∷ []) past e (Contains-push [] e)))
    (λ before. Contains-append_right (e ∷ []) past (Ended gid end.Complete) (completion_there gid past before))

ended_behind : (more own : List OwnEvent) → is_ended own ≡ true → is_ended (more ++ own) ≡ true
ended_behind [] own is = is
ended_behind (x ∷ more) own is = or_right (is_ending x) _ (ended_behind more own is)

completed_ended : (start : RunStart) (gid : Gid) (past : List Event) → is_completed_in past gid ≡ true
    → is_ended (own_of start past gid) ≡ true
completed_ended start gid [] is = absurd cc
completed_ended start gid (e ∷ past) is = or_cases (is_completion gid e) (is_completed_in past gid) is
    (λ here. subst (λ (x : Event). is_ended (own_of start (x ∷ past) gid) ≡ true) (sym (completion_is gid e here))
    (ap is_ended (own_here gid _ (own_of start past gid))))
    (λ before.
    let grown = own_grows start e past gid in
    subst (λ (l : List OwnEvent). is_ended l ≡ true) (sym grown.1)
    (ended_behind grown.0 (own_of start past gid) (completed_ended start gid past before)))

-- one that goes on isn't complete
pub going_uncompleted : RunFollows → (start : RunStart) (past : List Event) (gid : Gid) → IsLegal start past
    → goes_on_in start past gid ≡ true → is_completed_in past gid ≡ false
going_uncompleted laws start past gid legal goes = by (is_completed_in past gid) refl
  where
    by : (b : Bool) → is_completed_in past gid ≡ b → is_completed_in past gid ≡ false
    by false is = is
    by true is =
        absurd (let no : true ≡ false = sym goes ∙ laws.ended start past gid legal (completed_ended start gid past is) in cc)

-- ---- images

-- the control file of a held image stands
held_stands : {P : Type 0} (want : Want) (one other : Listing) (seen image : Files) → IsHeldByEither want one other seen image
    → image (control_name want) ≡ None → P
held_stands want one other seen image held gone = ⊎_elim
    (λ (first : IsHeld want one seen image).
    absurd (let no : Some _ ≡ None = sym first.bytes ∙ gone in cc))
    (λ (second : IsHeld want other seen image).
    absurd (let no : Some _ ≡ None = sym second.bytes ∙ gone in cc)) held

finished_agrees : (want : Want) (seen image : Files) → IsFinished want seen image → Agrees want seen image
finished_agrees want seen image finished block resumes i below =
    ap (λ (c : List (Option (List ℕ))). byte_at want.layout c (block_start want.plan.piece_len block + i)) finished.files

-- what an image gives that is stored: at least what the last save listed before
pub stored_gives : (want : Want) (was own : List OwnEvent) → LegalOwn want.plan.total want.plan.piece_len own → (image : Files)
    → IsLeftStored want was own image → (p : ℕ) → slice_get (saved_listing want was).pieces p ≡ Some true
    → ResumesPiece want image p
stored_gives want was own own_is_legal image gives p listed =
    let total = want.plan.total in
    let len = want.plan.piece_len in
    let first = gives.1.first in
    let cut = gives.1.to ∙ ap (λ (l : List OwnEvent). gives.1.rest ++ l) gives.1.from in
    let legal_there = legal_before total len gives.1.rest (first ++ was) (subst (LegalOwn total len) cut own_is_legal) in
    ⊎_elim
    (λ (last : GivesListing want (saved_listing want (first ++ was)) image).
    (last.pieces p).1 (pieces_stay total len p first was legal_there listed))
    (λ (now : GivesListing want (listing_in total len (first ++ was)) image).
    (now.pieces p).1 (verified_listed total len p (first ++ was) legal_there
    (verified_later p first was (listed_verified total len p was listed))))
    (subst (λ (l : List OwnEvent). GivesSaved want l image) gives.1.from gives.2)

-- what the saves of a download promise whose want was reopened: pieces alone
pub gives_pieces : (start : RunStart) (told : List RunTurn) (gid : Gid) (want : Want) (later own : List OwnEvent)
    (complete : Bool) (image : Files) → IsReopened start told gid want
    → ((p : ℕ) → is_piece_promised complete own p ≡ true → ResumesPiece want image p)
    → GivesSaves start told gid want later own complete image
gives_pieces start told gid want later own complete image again pieces first reopened = record {
  pieces = pieces;
  blocks = λ never b promised. absurd (let no : false ≡ true = sym never ∙ reopened again in cc);
}

-- what is promised where nothing tells of an end
pub gives_own : (start : RunStart) (told : List RunTurn) (gid : Gid) (want : Want) (later own : List OwnEvent)
    (complete : Bool) (image : Files) → complete ≡ false → GivesPromised want later own false false image
    → GivesSaves start told gid want later own complete image
gives_own start told gid want later own complete image going_on gives again reopened = record {
  pieces = λ p promised. gives.pieces p (subst (λ (c : Bool). is_piece_promised c own p ≡ true) going_on promised);
  blocks = λ first b promised. gives.blocks refl b promised;
}

pub stands_whole : (want : Want) (own : List OwnEvent) (complete : Bool) (seen image : Files) → IsFinished want seen image
    → (IsListedWant want → (p : ℕ) → is_piece_promised complete own p ≡ true → HasDigest want (files_in want seen) p)
    → StandsWhole want own complete seen image
stands_whole want own complete seen image finished right = record {
  gone = finished.gone;
  files = finished.files;
  right = λ listed p promised. rw finished.files (right listed p promised);
}

pub promised_verified : (complete : Bool) (own : List OwnEvent) (p : ℕ) → is_piece_promised complete own p ≡ true
    → is_verified_in own p ≡ true
promised_verified true own p is = or_cases (is_piece_saved own p) (is_verified_in own p) is
    (λ saved. saved_verified p own saved) (λ now. now)
promised_verified false own p is = or_cases (is_piece_saved own p) false is
    (λ saved. saved_verified p own saved) (λ no. absurd cc)

-- ---- one that is opened

module _ (laws : RunFollows) (start : RunStart) (told : List RunTurn) (want : Want) (star : Gid) (d new : DiskState)
    (is_want : IsWant want) (legal : IsLegal start (history_of told)) (has : HasWant start (history_of told) star want)
    (opened : is_opened (own_of start (history_of told) star) ≡ true) (left : IsLeftIn start (history_of told) star want new)
    (sound_now : AreSound want d.seen d.may_leave → (image : Files) → new.may_leave image → Sound want image)
    (right : LacksControl want new.seen → AreSound want d.seen d.may_leave → IsListedWant want → (p : ℕ)
    → is_verified_in (own_of start (history_of told) star) p ≡ true → HasDigest want (files_in want new.seen) p) where
  abbrev total : ℕ
  total = want.plan.total

  abbrev len : ℕ
  len = want.plan.piece_len

  abbrev own : List OwnEvent
  own = own_of start (history_of told) star

  pub own_is_legal : LegalOwn total len own
  own_is_legal = own_legal laws start (history_of told) star want legal has

  pub done_now : IsDoneIn start (history_of told) star → (gid : Gid) → (star ≡ gid) ⊎ IsAskedLater start told gid star
      → IsDoneSince start told gid want
  done_now whole gid later = record {
    other = star;
    later = later;
    opened = record { opened = opened; has = has };
    done = whole;
  }

  -- each verified piece has its digest, where the images were sound
  pub digest_now : AreSound want d.seen d.may_leave → IsListedWant want → (p : ℕ) → is_verified_in own p ≡ true
      → HasDigest want (files_in want new.seen) p
  digest_now sound listed p verified = ⊎_elim
      (λ listed_there.
      ⊎_elim
      (λ (held : IsHeldByEither want (saved_listing want own) (listing_in total len own) new.seen new.seen).
      (sound_now sound new.seen new.own_image).right listed p
      (⊎_elim
      (λ (last : IsHeld want (saved_listing want own) new.seen new.seen).
      ((laws.give want (saved_listing want own) new.seen new.seen is_want last).pieces p).1 listed_there)
      (λ (saved : IsHeld want (listing_in total len own) new.seen new.seen).
      ((laws.give want (listing_in total len own) new.seen new.seen is_want saved).pieces p).1
      (verified_listed total len p own own_is_legal verified)) held))
      (λ (whole : _ × IsFinished want new.seen new.seen). right whole.1.gone sound listed p verified)
      (left.images new.seen new.own_image))
      (λ (has_digest : HasDigest want (files_in want new.seen) p). has_digest) (left.right listed p verified)

  held_promised_now : (image : Files) → IsHeldByEither want (saved_listing want own) (listing_in total len own) new.seen image
      → GivesPromised want [] own false false image
  held_promised_now image held =
      let opened_own : IsOpenedOwn want own = record { want_is = is_want; legal = own_is_legal; opened = opened } in
      listing_promised want own laws.sound [] image opened_own
      (⊎_elim
      (λ (last : IsHeld want (saved_listing want own) new.seen image).
      inl (laws.give want (saved_listing want own) new.seen image is_want last))
      (λ (saved : IsHeld want (listing_in total len own) new.seen image).
      inr (laws.give want (listing_in total len own) new.seen image is_want saved)) held)

  held_uncompleted : (image : Files) → new.may_leave image
      → IsHeldByEither want (saved_listing want own) (listing_in total len own) new.seen image
      → is_completed_in (history_of told) star ≡ false
  held_uncompleted image there held = by (is_completed_in (history_of told) star) refl
    where
      by : (b : Bool) → is_completed_in (history_of told) star ≡ b → is_completed_in (history_of told) star ≡ false
      by false is = is
      by true is =
          held_stands want (saved_listing want own) (listing_in total len own) new.seen image held
          (left.complete (completion_there star (history_of told) is) image there).gone

  pub ended_agrees : (image : Files) → new.may_leave image → Agrees want new.seen image
  ended_agrees image there = ⊎_elim
      (λ (held : IsHeldByEither want (saved_listing want own) (listing_in total len own) new.seen image).
      ⊎_elim (λ (last : IsHeld want (saved_listing want own) new.seen image). last.agrees)
      (λ (saved : IsHeld want (listing_in total len own) new.seen image). saved.agrees) held)
      (λ (whole : _ × IsFinished want new.seen image). finished_agrees want new.seen image whole.1) (left.images image there)

  -- all that is promised of it holds
  pub now_own : AreSound want d.seen d.may_leave → (image : Files) → new.may_leave image → Holds start told told star want new.seen image
  now_own sound image there later cut =
      let none : [] ≡ later = append_cancel_right [] later own cut in
      let complete = is_completed_in (history_of told) star in
      subst (λ (l : List OwnEvent). GivesOrStands start told star want l own complete new.seen image) none
      (⊎_elim
      (λ (held : IsHeldByEither want (saved_listing want own) (listing_in total len own) new.seen image).
      inl (gives_own start told star want [] own complete image (held_uncompleted image there held) (held_promised_now image held)))
      (λ (whole : IsDoneIn start (history_of told) star × IsFinished want new.seen image).
      inr (
        done_now whole.0 star (inl refl),
        stands_whole want own complete new.seen image whole.1
            (λ listed p promised. digest_now sound listed p (promised_verified complete own p promised)),
      )) (left.images image there))
