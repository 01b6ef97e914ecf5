-- What is left of a download that its store was asked to open.
use Rattle.std.proofs.Common.{◌≡◌, ◌≤◌, ◌⊎◌, ◌++◌, inl, inr, ⊎_elim, Bool, true, false, Some, None, List, sym, ◌∙◌, arith}
use Rattle.control_file.specs.declared.want.Opened.{Opened}
use Rattle.control_file.specs.declared.want.Want.{Want}
use Rattle.dl_disk.specs.Files.{Files}
use Rattle.dl_disk.specs.Passes.{since_split}
use Rattle.dl_disk.specs.State.{DiskState, LeftSince}
use Rattle.dl_history.specs.Listings.{listing_in}
use Rattle.dl_history.specs.OwnEvents.{OwnEvent}
use Rattle.dl_history.specs.PayloadParts.{is_opened}
use Rattle.dl_kinds.specs.declared.gid.Gid.{Gid}
use Rattle.durable_progress.specs.Held.{IsHeld, IsHeldByEither}
use Rattle.machine_core.specs.Clashes.{SharesNoName}
use Rattle.resume_core.proofs.Fitted.{fits_to, has_same, stretches_to}
use Rattle.resume_core.proofs.Saving.{agrees_finished}
use Rattle.resume_core.specs.Openings.{ComesOfBefore, FitsPayload, GivesSeen, KeepsBesides, is_compared}
use Rattle.resume_core.specs.Refusals.{open_refusal}
use Rattle.resume_core.specs.Resume.{Agrees, AreSound}
use Rattle.resume_core.specs.States.{SamePayload}
use Rattle.resume_core.specs.Steps.{IsFinished, SameBesides}
use Rattle.stored_run.specs.Leavings.{IsLeft}
use Rattle.stored_run.specs.Opening.{IsLeftEnded, OpensJustIn, OpensOn, TriesWant, is_checked_of, own_opened}
use Rattle.stored_run.specs.Steps.{EndsStored, IsLeftStored, IsLeftWhole}
use Rattle.stored_run.specs.Stored.{saved_listing}
use Rattle.stored_run.specs.Views.{IsDoneOf, kept_want_of, own_in}
use Rattle.stored_run.specs.declared.run.StoredView.{StoredView}

-- ---- images of now

since_now : (start : DiskState) (disk : DiskState) (image : Files) → start.moment ≤ disk.moment → disk.may_leave image
    → LeftSince disk start.moment image
since_now start disk image later left = (disk.moment, later, omega arith, (disk.now_left image).1 left)

-- what was sound before the store was asked is so then
then_sound : (want : Want) (check : Bool) (a m : DiskState) → OpensOn want check a m → AreSound want a.seen a.may_leave
    → AreSound want m.seen m.may_leave
then_sound want check a m on were image left =
    on.sound were image (since_now a m image on.besides.passes.later left)

-- ---- it isn't opened

module _ {D : Type 0} (gid : Gid) (want : Want) (old new : StoredView D) (a b : DiskState)
    (on : OpensOn want (is_checked_of old gid) a b) (none : open_refusal want a.seen ≡ None)
    (unopened : is_opened (own_in new gid) ≡ false) where
  pub tries_unopened : TriesWant gid want old new a b
  tries_unopened = record {
    refusable = none;
    images = λ has image left. ⊎_elim
        (λ (comes : ComesOfBefore want a image). inl comes)
        (λ (gives : GivesSeen (is_compared want (is_checked_of old gid)) want a.seen image). inr (inl gives))
        ((on.over_whole has).images image left);
    gives = λ stands plain image left. inl (on.gives stands plain image left);
    pieces = λ stands were image left. inl (on.pieces stands were image left);
    sound = λ were image left. (on.sound were image left).0;
    agrees = λ were image left. (then_sound want (is_checked_of old gid) a b on were image left).1;
    files = λ has. has_same want a.seen b.seen (on.over_whole has).payload has;
    payload = λ has. (on.over_whole has).payload;
    stretches = on.stretches;
    opened = λ is. absurd (let f : true ≡ false = sym is ∙ unopened in cc);
    right = λ is. absurd (let f : true ≡ false = sym is ∙ unopened in cc);
  }

-- ---- it is opened, and may end then

module _ {D : Type 0} (gid : Gid) (want : Want) (old new : StoredView D) (a m z : DiskState)
    (on : OpensOn want (is_checked_of old gid) a m) (fits : FitsPayload want a.seen m.seen)
    (none : open_refusal want a.seen ≡ None) (opened : Opened)
    (just : OpensJustIn old gid want a opened) (later : List OwnEvent)
    (own : own_in new gid ≡ later ++ own_opened old gid opened) (kept : kept_want_of new gid ≡ Some want)
    (is_open : is_opened (own_in new gid) ≡ true) (apart : SharesNoName old.machine gid) (besides : KeepsBesides want m z)
    (payload : SamePayload want m z)
    (ends : EndsStored want (IsDoneOf new gid) (own_opened old gid opened) (own_in new gid) m z)
    (left : IsLeft new gid want z) where
  late_ended : (image : Files) → LeftSince z m.moment image → IsLeftEnded gid want old new a z image
  late_ended image late = ⊎_elim
      (λ (stored : IsLeftStored want (own_opened old gid opened) (own_in new gid) image).
      inl (record { opened = opened; just = just; stored = stored }))
      (λ (whole : IsLeftWhole want (IsDoneOf new gid) (own_in new gid) m z image).
      inr (
        is_open,
        record {
          verified = whole.verified;
          finished = whole.finished;
          right = λ were. whole.right (then_sound want (is_checked_of old gid) a m on were);
        },
      ))
      (ends.images image late)

  agrees_now : (image : Files) → z.may_leave image → Agrees want z.seen image
  agrees_now image now = ⊎_elim
      (λ (either : IsHeldByEither want (saved_listing want (own_in new gid))
      (listing_in want.plan.total want.plan.piece_len (own_in new gid)) z.seen image).
      ⊎_elim
      (λ (held : IsHeld want (saved_listing want (own_in new gid)) z.seen image). held.agrees)
      (λ (held : IsHeld want (listing_in want.plan.total want.plan.piece_len (own_in new gid)) z.seen image). held.agrees)
      either)
      (λ (done : IsDoneOf new gid × IsFinished want z.seen image). agrees_finished want z.seen image done.1)
      (left.images image now)

  -- of the first part, or of the second
  parts : (image : Files) → LeftSince z a.moment image → LeftSince m a.moment image ⊎ LeftSince z m.moment image
  parts image since = since_split (SameBesides want) a.moment m z besides.passes image since

  pub tries_opened : TriesWant gid want old new a z
  tries_opened = record {
    refusable = none;
    images = λ has image since. ⊎_elim
        (λ (early : LeftSince m a.moment image). ⊎_elim
        (λ (comes : ComesOfBefore want a image). inl comes)
        (λ (gives : GivesSeen (is_compared want (is_checked_of old gid)) want a.seen image). inr (inl gives))
        ((on.over_whole has).images image early))
        (λ (late : LeftSince z m.moment image). inr (inr (late_ended image late)))
        (parts image since);
    gives = λ stands plain image since. ⊎_elim
        (λ (early : LeftSince m a.moment image). inl (on.gives stands plain image early))
        (λ (late : LeftSince z m.moment image). inr (late_ended image late))
        (parts image since);
    pieces = λ stands were image since. ⊎_elim
        (λ (early : LeftSince m a.moment image). inl (on.pieces stands were image early))
        (λ (late : LeftSince z m.moment image). inr (late_ended image late))
        (parts image since);
    sound = λ were image since. ⊎_elim
        (λ (early : LeftSince m a.moment image). (on.sound were image early).0)
        (λ (late : LeftSince z m.moment image).
        ends.sound (then_sound want (is_checked_of old gid) a m on were) image late)
        (parts image since);
    agrees = λ were image now. agrees_now image now;
    files = λ has. left.files;
    payload = λ has. payload ∙ (on.over_whole has).payload;
    stretches = stretches_to want a.seen m.seen z.seen payload on.stretches;
    opened = λ is. record {
      opened = opened;
      just = just;
      later = later;
      own = own;
      kept = kept;
      left = left;
      fits = fits_to want a.seen m.seen z.seen payload fits;
      apart = apart;
    };
    right = λ is lacks were. ends.right lacks (then_sound want (is_checked_of old gid) a m on were);
  }
