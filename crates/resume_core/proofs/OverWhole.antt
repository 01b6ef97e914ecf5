-- What an opening leaves of whole files.
use Rattle.std.proofs.Common.{◌↔◌, ◌∙◌, inl, inr, ⊎_elim, ℕ, Bool, true, false, refl}
use Rattle.dl_disk.specs.Files.{Files, IsSame}
use Rattle.dl_disk.specs.Passes.{Passes, Performs, image_before, passes_none, passes_wider, since_split}
use Rattle.dl_disk.specs.State.{DiskState}
use Rattle.payload_files.specs.Payload.{HasFiles}
use Rattle.control_file.specs.Laws.{WrittenIsReadBack}
use Rattle.control_file.specs.Spelling.{control_bytes}
use Rattle.control_file.specs.Wants.{IsWant}
use Rattle.control_file.specs.declared.control.Control.{Control}
use Rattle.control_file.specs.declared.fields.ByteOrder.TheVariants.{Big}
use Rattle.control_file.specs.declared.want.Opened.{Opened}
use Rattle.control_file.specs.declared.want.Want.{Want}
use Rattle.resume_core.specs.Openings.{KeepsBesides, OpensBlock, OpensJust, OpensPiece, OpensWhole, OpensWholeJust}
use Rattle.resume_core.specs.States.{KeepsFor}
use Rattle.resume_core.specs.Steps.{SameBesides, SameFor, Saves}
use Rattle.resume_core.specs.Tables.{ListsJust}
use Rattle.resume_core.specs.Wants.{control_name}
use Rattle.resume_core.proofs.Filed.{files_kept}
use Rattle.resume_core.proofs.Openings.{gives_opened, saved_payload}

-- ---- the same files

module _ (want : Want) where
  for_on : (x y z : Files) → SameFor want x y → SameFor want y z → SameFor want x z
  for_on x y z one two = record { control = two.control ∙ one.control; files = two.files ∙ one.files }

  pub same_for : (x y : Files) → IsSame x y → SameFor want x y
  same_for x y same = record { control = same (control_name want); files = files_kept want x y same }

  module _ (x y : Files) (same : SameFor want x y) where
    opens_piece : (compared : Bool) (piece : ℕ) → OpensPiece compared want x piece ↔ OpensPiece compared want y piece
    opens_piece true piece = rw same.files (λ is. is, λ is. is)
    opens_piece false piece = rw (same.control, same.files) (λ is. is, λ is. is)

    opens_block : (compared : Bool) (block : ℕ) → OpensBlock compared want x block ↔ OpensBlock compared want y block
    opens_block true block = rw same.files (λ is. is, λ is. is)
    opens_block false block = rw (same.control, same.files) (λ is. is, λ is. is)

    pub opens_for : (compared : Bool) (opened : Opened) → OpensJust compared want x opened
        → OpensJust compared want y opened
    opens_for compared opened opens = record {
      pieces = λ piece. (
        λ set. (opens_piece compared piece).0 ((opens.pieces piece).0 set),
        λ is. (opens.pieces piece).1 ((opens_piece compared piece).1 is),
      );
      blocks = λ block. (
        λ set. (opens_block compared block).0 ((opens.blocks block).0 set),
        λ is. (opens.blocks block).1 ((opens_block compared block).1 is),
      );
    }

  pub for_none : (a : DiskState) → KeepsFor want a a
  for_none a = record {
    seen = record { control = refl; files = refl };
    passes = passes_none (SameFor want) a (λ image. record { control = refl; files = refl });
  }

  pub for_same : (a b : DiskState) → IsSame a.seen b.seen → Passes IsSame a b → KeepsFor want a b
  for_same a b same passes = record {
    seen = same_for a.seen b.seen same;
    passes = passes_wider IsSame (SameFor want) a b same_for passes;
  }

  -- ---- one step after the other

  pub whole_kept : (compared : Bool) (a b : DiskState) → KeepsFor want a b → OpensWhole compared want a b
  whole_kept compared a b keeps = record {
    payload = keeps.seen.files;
    images = λ image left.
        let from = keeps.passes.images left.0 image left.1 left.2 left.3 in
        inl (record { before = from.0; left = from.1; same = from.2 });
  }

  pub whole_on : (compared : Bool) (a b c : DiskState) → KeepsFor want a b → KeepsBesides want b c
      → OpensWhole compared want b c → OpensWhole compared want a c
  whole_on compared a b c keeps after opens = record {
    payload = opens.payload ∙ keeps.seen.files;
    images = λ image left. ⊎_elim
        (λ early. (whole_kept compared a b keeps).images image early)
        (λ late. ⊎_elim
        (λ comes.
        let from = image_before (SameFor want) a b keeps.passes comes.before comes.left in
        inl (record { before = from.0; left = from.1; same = for_on from.0 comes.before image from.2 comes.same }))
        (λ gives. inr (record {
          control = gives.control;
          files = gives.files ∙ keeps.seen.files;
          pieces = λ piece opened. gives.pieces piece ((opens_piece a.seen b.seen keeps.seen compared piece).0 opened);
        }))
        (opens.images image late))
        (since_split (SameBesides want) a.moment b c after.passes image left);
  }

  pub just_kept : (opened : Opened) (a b : DiskState) → KeepsFor want a b → OpensWholeJust want opened a b
  just_kept opened a b keeps compared just = whole_kept compared a b keeps

  pub just_on : (opened : Opened) (a b c : DiskState) → KeepsFor want a b → KeepsBesides want b c
      → OpensWholeJust want opened b c → OpensWholeJust want opened a c
  just_on opened a b c keeps after opens compared just =
      whole_on compared a b c keeps after (opens compared (opens_for a.seen b.seen keeps.seen compared opened just))

  -- ---- the control file that lists what is opened

  module _ (back : WrittenIsReadBack) (is : IsWant want) (opened : Opened) (control : Control)
      (lists : ListsJust want opened.verified opened.blocks control) (a b : DiskState)
      (has : HasFiles want.dir want.layout a.seen)
      (performs : Performs (Saves want (control_bytes Big control) a.seen) a b) where
    pub saved_just : OpensWholeJust want opened a b
    saved_just compared just = record {
      payload = saved_payload want back is opened control lists a b has performs;
      images = λ image left.
          let from = performs.passes.images left.0 image left.1 left.2 left.3 in
          ⊎_elim
          (λ same. inl (record { before = from.0; left = from.1; same = same }))
          (λ saved.
          let gives = gives_opened want back is opened control lists a b has performs image saved in
          inr (record {
            control = rw saved.control refl;
            files = saved.files;
            pieces = λ piece opens. (gives.pieces piece).1 ((just.pieces piece).1 opens);
          }))
          from.2.files;
    }
