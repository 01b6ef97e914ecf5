-- What the steps of an opening do to a disk, one after the other.
use Rattle.std.proofs.Common.{◌≡◌, ◌≤◌, inl, inr, ⊎_elim, ◌∙◌, ℕ, List, Bool, true, false, Option, Some, None, sym, subst, refl, ap, arith}
use Rattle.std.specs.Prelude.{IsSome, slice_get, Result, Ok, Err, if◌then◌else◌}
use Rattle.sha1.specs.Sha1.{sha1}
use Rattle.dl_disk.specs.Files.{Files, IsSame}
use Rattle.dl_disk.specs.Passes.{Passes, Performs, passes_none, passes_more, passes_wider, present, since_split}
use Rattle.dl_disk.specs.State.{DiskState, IsDurable, LeftSince}
use Rattle.payload_files.specs.Changes.{Stretches}
use Rattle.payload_files.specs.Payload.{HasFiles}
use Rattle.control_file.specs.Laws.{WrittenIsReadBack}
use Rattle.control_file.specs.Reading.{control_in}
use Rattle.control_file.specs.Spelling.{control_bytes}
use Rattle.control_file.specs.declared.control.Control.{Control}
use Rattle.control_file.specs.declared.fault.ControlErr.{ControlErr}
use Rattle.control_file.specs.declared.fields.ByteOrder.TheVariants.{Big}
use Rattle.control_file.specs.declared.want.Want.{Want}
use Rattle.control_file.specs.declared.want.Opened.{Opened}
use Rattle.resume_core.specs.Found.{Found, Refused, Used, ControlStands, found, found_in, is_control_of, judged, ListsPiece, ListsInFlight}
use Rattle.resume_core.specs.Listing.{MatchesListed}
use Rattle.resume_core.specs.Openings.{FitsPayload, KeepsBesides, KeepsSound, KeepsGiven, GivesMoreOrOpened, GivesOpened, HaveControl, MatchesOpened, AreOpenedIn}
use Rattle.resume_core.specs.Resume.{Sound, Agrees, AreSound, GivesAtLeast, ResumesPiece, ResumesBlock, PieceResumed, BlockResumed}
use Rattle.resume_core.specs.Rows.{ListsNothing}
use Rattle.resume_core.specs.SaveLaws.{SavesListing}
use Rattle.resume_core.specs.States.{SamePayload}
use Rattle.resume_core.specs.Steps.{SameFor, SameBesides, PutsOrKeeps, Saves, IsSaved, AreSaved}
use Rattle.resume_core.specs.StretchLaws.{StretchedUnder}
use Rattle.resume_core.specs.Tables.{ListsJust}
use Rattle.control_file.specs.Wants.{IsWant}
use Rattle.resume_core.specs.Wants.{control_name, temporary_name, files_in}
use Rattle.resume_core.proofs.Filed.{files_kept}
use Rattle.resume_core.proofs.Fitted.{has_same}
use Rattle.resume_core.proofs.Same.{give_same, sound_same, agrees_same, agrees_seen}
use Rattle.resume_core.proofs.Saved.{written_is_used, gives_just, sound_saved, agrees_saved}
use Rattle.resume_core.proofs.Saving.{sound_either, agrees_either}
use Rattle.resume_core.proofs.Savings.{files_put}
use Rattle.resume_core.proofs.Stretched.{still_piece, still_block, sound_still, agrees_still, block_reached}
use Rattle.resume_core.proofs.Stretching.{kept}

-- ---- small files

-- nothing changed
pub puts_none : (temporary name bytes : List ℕ) (x y : Files) → IsSame x y → PutsOrKeeps temporary name bytes x y
puts_none temporary name bytes x y same = record {
  others = λ other from_temporary from_name. same other;
  file = inl (same name);
}

pub puts_after : (temporary name bytes : List ℕ) (x y z : Files) → IsSame x y → PutsOrKeeps temporary name bytes y z
    → PutsOrKeeps temporary name bytes x z
puts_after temporary name bytes x y z same puts = record {
  others = λ other from_temporary from_name. puts.others other from_temporary from_name ∙ same other;
  file = ⊎_elim (λ keeps. inl (keeps ∙ same name)) (λ put. inr put) puts.file;
}

-- every image has a control file that lasts
pub held_put : (want : Want) (disk : DiskState) (bytes : List ℕ) → disk.seen (control_name want) ≡ Some bytes
    → IsDurable (control_name want) disk → HaveControl want disk.may_leave
held_put want disk bytes put durable image left =
    subst (λ (o : Option (List ℕ)). IsSome o) (sym (durable image left ∙ put)) refl

-- ---- one step after the other

module _ (want : Want) where
  since_now : (start : ℕ) (b : DiskState) (image : Files) → start ≤ b.moment → b.may_leave image
      → LeftSince b start image
  since_now start b image later left = (b.moment, later, omega arith, (b.now_left image).1 left)

  pub besides_none : (a : DiskState) → KeepsBesides want a a
  besides_none a = record {
    seen = λ name is. refl;
    passes = passes_none (SameBesides want) a (λ image name is. refl);
  }

  pub besides_on : (a b c : DiskState) → KeepsBesides want a b → KeepsBesides want b c → KeepsBesides want a c
  besides_on a b c one two = record {
    seen = λ name is. two.seen name is ∙ one.seen name is;
    passes = passes_more (SameBesides want) a b c (λ x y z f g name is. g name is ∙ f name is) one.passes two.passes;
  }

  pub besides_of : (step : Files → Files → Type 0) (a b : DiskState) → ((x y : Files) → step x y → SameBesides want x y)
      → Performs step a b → KeepsBesides want a b
  besides_of step a b wider performs = record {
    seen = wider a.seen b.seen performs.seen;
    passes = passes_wider step (SameBesides want) a b wider performs.passes;
  }

  pub besides_same : (a b : DiskState) → IsSame a.seen b.seen → Passes IsSame a b → KeepsBesides want a b
  besides_same a b same passes = record {
    seen = λ name is. same name;
    passes = passes_wider IsSame (SameBesides want) a b (λ x y is name beside. is name) passes;
  }

  pub sound_none : (a : DiskState) → KeepsSound want a a
  sound_none a = record {
    agrees = λ image is. is;
    sound = λ were image left. were image (present a image left);
  }

  pub sound_on : (a b c : DiskState) → KeepsBesides want a b → KeepsBesides want b c → KeepsSound want a b
      → KeepsSound want b c → KeepsSound want a c
  sound_on a b c before after one two = record {
    agrees = λ image is. two.agrees image (one.agrees image is);
    sound = λ were image left. ⊎_elim
        (λ early. let was = one.sound were image early in (was.0, two.agrees image was.1))
        (λ late. two.sound (λ now is. one.sound were now (since_now a.moment b now before.passes.later is)) image late)
        (since_split (SameBesides want) a.moment b c after.passes image left);
  }

  pub given_none : (a : DiskState) → KeepsGiven want a a
  given_none a image left = record {
    before = image;
    left = present a image left;
    pieces = λ piece gives. gives;
    blocks = λ block gives. gives;
  }

  -- what one of the images gives at least gives at least what another did
  pub given_after : (a b : DiskState) → a.moment ≤ b.moment → KeepsGiven want a b → (image : Files)
      → GivesAtLeast want b.may_leave image → GivesAtLeast want a.may_leave image
  given_after a b later one image most =
      let was = one most.before (since_now a.moment b most.before later most.left) in record {
        before = was.before;
        left = was.left;
        pieces = λ piece gives. most.pieces piece (was.pieces piece gives);
        blocks = λ block gives. most.blocks block (was.blocks block gives);
      }

  pub given_on : (a b c : DiskState) → KeepsBesides want a b → KeepsBesides want b c → KeepsGiven want a b
      → KeepsGiven want b c → KeepsGiven want a c
  given_on a b c before after one two image left = ⊎_elim
      (λ early. one image early)
      (λ late. given_after a b before.passes.later one image (two image late))
      (since_split (SameBesides want) a.moment b c after.passes image left)

  pub given_or_on : (opened : Opened) (a b c : DiskState) → KeepsBesides want a b → KeepsBesides want b c
      → KeepsGiven want a b → GivesMoreOrOpened want opened b c → GivesMoreOrOpened want opened a c
  given_or_on opened a b c before after one two image left = ⊎_elim
      (λ early. inl (one image early))
      (λ late. ⊎_elim
      (λ more. inl (given_after a b before.passes.later one image more))
      (λ opens. inr opens)
      (two image late))
      (since_split (SameBesides want) a.moment b c after.passes image left)

  pub given_or : (opened : Opened) (a b : DiskState) → KeepsGiven want a b → GivesMoreOrOpened want opened a b
  given_or opened a b given image left = inl (given image left)

  -- ---- what matches

  pub matches_on : (opened : Opened) (a b : Files) → FitsPayload want a b → MatchesOpened want opened a
      → MatchesOpened want opened b
  matches_on opened a b fits right listed piece set =
      let was = right listed piece set in (
        fits.reaches piece was.0,
        was.1 ∙ ap (λ (bytes : List ℕ). Some (sha1 bytes)) (sym (fits.bytes piece was.0)),
      )

  pub matches_same : (opened : Opened) (a b : Files) → IsSame a b → MatchesOpened want opened a
      → MatchesOpened want opened b
  matches_same opened a b same right listed piece set = rw (files_kept want a b same) (right listed piece set)

  -- ---- calls that change nothing

  same_for : (x y : Files) → IsSame x y → SameFor want x y
  same_for x y same = record { control = same (control_name want); files = files_kept want x y same }

  module _ (a b : DiskState) (same : IsSame a.seen b.seen) (passes : Passes IsSame a b) where
    pub sound_same_step : KeepsSound want a b
    sound_same_step = record {
      agrees = λ image is. agrees_seen want a.seen b.seen image (files_kept want a.seen b.seen same) is;
      sound = λ were image left.
          let from = passes.images left.0 image left.1 left.2 left.3 in
          let was = were from.0 from.1 in
          let as_it = same_for from.0 image from.2 in (
            sound_same want from.0 image as_it was.0,
            agrees_seen want a.seen b.seen image (files_kept want a.seen b.seen same)
                (agrees_same want a.seen from.0 image as_it was.1),
          );
    }

    pub given_same_step : KeepsGiven want a b
    given_same_step image left =
        let from = passes.images left.0 image left.1 left.2 left.3 in
        let give = give_same want from.0 image (same_for from.0 image from.2) in record {
          before = from.0;
          left = from.1;
          pieces = λ piece. (give.pieces piece).1;
          blocks = λ block. (give.blocks block).1;
        }

  -- ---- files that get their lengths

  used_stands : (read : Result Control ControlErr) → ControlStands (judged want read)
  used_stands (Err fault) = tt
  used_stands (Ok control) = by_test (is_control_of want control)
    where
      by_test : (test : Bool) → ControlStands (if test then Used control else Refused)
      by_test true = tt
      by_test false = tt

  stands_found : (file : Option (List ℕ)) → IsSome file → ControlStands (found want file)
  stands_found None some = absurd cc
  stands_found (Some bytes) some = used_stands (control_in bytes)

  -- what agreed with what was read agrees with what is read after such a change
  agrees_stretched : (was now image : Files) → Stretches want.dir want.layout was now → Agrees want was image
      → Agrees want now image
  agrees_stretched was now image change agrees block gives i below =
      let there = block_reached want (found_in want image) (files_in want image) block gives i below in
      let same = agrees block gives i below in
      same ∙ sym (kept want was now change _ (subst (λ (o : Option ℕ). IsSome o) same there))

  module _ (is : IsWant want) (a b : DiskState) (held : HaveControl want a.may_leave)
      (performs : Performs (Stretches want.dir want.layout) a b) where
    from_before : (image : Files) → LeftSince b a.moment image
        → (before : Files) × a.may_leave before × StretchedUnder want before image
    from_before image left =
        let from = performs.passes.images left.0 image left.1 left.2 left.3 in (
          from.0,
          from.1,
          record {
            want_is = is;
            stands = stands_found (from.0 (control_name want)) (held from.0 from.1);
            files =
                from.2;
          },
        )

    pub fit_besides : KeepsBesides want a b
    fit_besides = besides_of (Stretches want.dir want.layout) a b
        (λ x y change name beside. change.others name beside.files) performs

    pub fit_sound : KeepsSound want a b
    fit_sound = record {
      agrees = λ image agrees. agrees_stretched a.seen b.seen image performs.seen agrees;
      sound = λ were image left.
          let from = from_before image left in
          let was = were from.0 from.1 in (
            sound_still want from.0 image from.2 was.0,
            agrees_still want from.0 image from.2 was.0 a.seen b.seen performs.seen was.1,
          );
    }

    pub fit_given : KeepsGiven want a b
    fit_given image left =
        let from = from_before image left in record {
          before = from.0;
          left = from.1;
          pieces = still_piece want from.0 image from.2;
          blocks = still_block want from.0 image from.2;
        }

  -- ---- a control file that lists nothing

  module _ (back : WrittenIsReadBack) (control : Control) (nothing : ListsNothing want control) (image : Files)
      (put : image (control_name want) ≡ Some (control_bytes Big control)) where
    is_used : found_in want image ≡ Used control
    is_used = ap (found want) put ∙ written_is_used back want control nothing.listing

    no_piece : (piece : ℕ) → ResumesPiece want image piece → ⊥
    no_piece piece gives =
        let used : PieceResumed want (Used control) (files_in want image) piece =
        subst (λ (f : Found). PieceResumed want f (files_in want image) piece) is_used gives in
        ⊎_elim (λ lists. nothing.pieces piece lists) (λ hashed. hashed) used.1

    no_block : (block : ℕ) → ResumesBlock want image block → ⊥
    no_block block gives =
        let used : BlockResumed want (Used control) (files_in want image) block =
        subst (λ (f : Found). BlockResumed want f (files_in want image) block) is_used gives in
        ⊎_elim
        (λ of_piece. ⊎_elim (λ lists. nothing.pieces _ lists) (λ hashed. hashed) of_piece.1.1)
        (λ in_flight. nothing.blocks block (inr in_flight.1))
        used

    pub empty_sound : Sound want image
    empty_sound = record {
      right = λ listed piece gives. absurd (no_piece piece gives);
      pieces = λ piece lists. absurd (nothing.pieces piece (subst (λ (f : Found). ListsPiece f piece) is_used lists));
      blocks = λ block lists. absurd (nothing.blocks block
          (inr (subst (λ (f : Found). ListsInFlight want.plan.piece_len f block) is_used lists)));
    }

    pub empty_agrees : (seen : Files) → Agrees want seen image
    empty_agrees seen block gives i below = absurd (no_block block gives)

  module _ (back : WrittenIsReadBack) (is : IsWant want) (control : Control) (nothing : ListsNothing want control)
      (a b : DiskState)
      (performs : Performs (PutsOrKeeps (temporary_name want) (control_name want) (control_bytes Big control)) a b)
    where
      abbrev bytes : List ℕ
      bytes = control_bytes Big control

      pub put_payload : SamePayload want a b
      put_payload = files_put want bytes is a.seen b.seen performs.seen

      pub put_besides : KeepsBesides want a b
      put_besides = besides_of (PutsOrKeeps (temporary_name want) (control_name want) bytes) a b
          (λ x y puts name beside. puts.others name beside.temporary beside.control) performs

      pub put_sound : KeepsSound want a b
      put_sound = record {
        agrees = λ image agrees. agrees_seen want a.seen b.seen image put_payload agrees;
        sound = λ were image left.
            let from = performs.passes.images left.0 image left.1 left.2 left.3 in
            let was = were from.0 from.1 in
            ⊎_elim
            (λ keeps.
            let as_it : SameFor want from.0 image = record {
              control = keeps;
              files = files_put want bytes is from.0 image from.2;
            } in (
              sound_same want from.0 image as_it was.0,
              agrees_seen want a.seen b.seen image put_payload (agrees_same want a.seen from.0 image as_it was.1),
            ))
            (λ put. (empty_sound back control nothing image put, empty_agrees back control nothing image put b.seen))
            from.2.file;
      }

  -- ---- the control file that lists what is opened

  module _ (back : WrittenIsReadBack) (is : IsWant want) (opened : Opened) (control : Control)
      (lists : ListsJust want opened.verified opened.blocks control) (a b : DiskState)
      (has : HasFiles want.dir want.layout a.seen)
      (performs : Performs (Saves want (control_bytes Big control) a.seen) a b) where
    pub saved_besides : KeepsBesides want a b
    saved_besides = besides_of (Saves want (control_bytes Big control) a.seen) a b
        (λ x y saves. saves.others) performs

    pub saved_payload : SamePayload want a b
    saved_payload = ⊎_elim (λ same. same.files) (λ saved. saved.files) performs.seen.files

    pub gives_opened : (image : Files) → IsSaved want (control_bytes Big control) a.seen image
        → GivesOpened want opened image
    gives_opened image saved =
        let just = gives_just back want control a.seen image is lists.listing has saved in record {
          pieces = λ piece. subst (λ (row : List Bool). (ResumesPiece want image piece
              → slice_get row piece ≡ Some true)
              × (slice_get row piece ≡ Some true → ResumesPiece want image piece)) lists.pieces (just.pieces piece);
          blocks = λ block. (
            λ gives. (lists.blocks block).0 ((just.blocks block).0 gives),
            λ set. (just.blocks block).1 ((lists.blocks block).1 set),
          );
        }

    pub saved_gives : GivesMoreOrOpened want opened a b
    saved_gives image left =
        let from = performs.passes.images left.0 image left.1 left.2 left.3 in
        ⊎_elim
        (λ same. let give = give_same want from.0 image same in inl (record {
          before = from.0;
          left = from.1;
          pieces = λ piece. (give.pieces piece).1;
          blocks = λ block. (give.blocks block).1;
        }))
        (λ saved. inr (gives_opened image saved))
        from.2.files

    pub saved_opened : AreSaved want (control_bytes Big control) a.seen b.may_leave
        → AreOpenedIn want opened b.seen b.may_leave
    saved_opened saved image left =
        let now = saved image left in record {
          control = control;
          lists = lists;
          saved = record { control = now.control; files = now.files ∙ sym saved_payload };
          files = has_same want a.seen image now.files has;
          gives = gives_opened image now;
        }

    module _ (right : MatchesOpened want opened a.seen) where
      listed_right : MatchesListed want control a.seen
      listed_right listed piece lists_it =
          (right listed piece (subst (λ (row : List Bool). slice_get row piece ≡ Some true) lists.pieces lists_it)).1

      pub saved_sound : KeepsSound want a b
      saved_sound = record {
        agrees = λ image agrees. agrees_seen want a.seen b.seen image saved_payload agrees;
        sound = λ were image left.
            let from = performs.passes.images left.0 image left.1 left.2 left.3 in
            let was = were from.0 from.1 in
            let saving : SavesListing want control a.seen from.0 image = record
            { want_is = is; listing = lists.listing; files = has; saves = from.2 } in (
              sound_either back want control a.seen from.0 image saving listed_right was.0,
              agrees_seen want a.seen b.seen image saved_payload
                  (agrees_either back want control a.seen from.0 image saving was.1),
            );
      }

      pub saved_verified : AreSaved want (control_bytes Big control) a.seen b.may_leave
          → AreSound want b.seen b.may_leave
      saved_verified saved image left =
          let now = saved image left in (
            sound_saved back want control a.seen image is lists.listing has now listed_right,
            agrees_seen want a.seen b.seen image saved_payload
                (agrees_saved want (control_bytes Big control) a.seen image now),
          )
