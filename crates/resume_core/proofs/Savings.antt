-- A control file is put beside a payload that lasts.
use Rattle.std.proofs.Common.{◌≡◌, inl, inr, ⊎_elim, ◌∙◌, ℕ, List, Some, get_or, refl, subst}
use Rattle.std.specs.Prelude.{Result, Ok, Err, OnOk}
use Rattle.dl_disk.specs.Files.{Files, Follows, IsSame}
use Rattle.dl_disk.specs.Calls.{Stays}
use Rattle.dl_disk.specs.Passes.{Performs, performs_none, performs_wider, passes_on, image_before}
use Rattle.dl_disk.specs.State.{DiskState, IsDurable}
use Rattle.payload_files.specs.Names.{name_of}
use Rattle.payload_files.specs.Payload.{AreDurable}
use Rattle.control_file.specs.declared.want.Want.{Want}
use Rattle.resume_core.specs.Steps.{SameBut, PutsOrKeeps, AreSaved, Saves}
use Rattle.control_file.specs.Wants.{IsWant}
use Rattle.resume_core.specs.Wants.{control_name, temporary_name, files_in}
use Rattle.resume_core.proofs.Apart.{control_other, temporary_other}
use Rattle.resume_core.proofs.Filed.{files_same, files_kept}

saves_same : (want : Want) (bytes : List ℕ) (seen x y : Files) → IsSame x y → Saves want bytes seen x y
saves_same want bytes seen x y same = record {
  others = λ name beside. same name;
  files = inl (record { control = same (control_name want); files = files_kept want x y same });
}

module _ (want : Want) (bytes : List ℕ) where
  -- nothing was done
  pub performs_unsaved : (disk : DiskState) → Performs (Saves want bytes disk.seen) disk disk
  performs_unsaved disk = performs_none (Saves want bytes disk.seen) disk
      (λ files. saves_same want bytes disk.seen files files (λ name. refl))

  -- the payload alone was made to last
  pub performs_secured : (a b : DiskState) → Performs IsSame a b → Performs (Saves want bytes a.seen) a b
  performs_secured a b = performs_wider IsSame (Saves want bytes a.seen) a b (saves_same want bytes a.seen)

  -- the control file was put, or kept
  module _ (is : IsWant want) where
    pub files_put : (x y : Files) → PutsOrKeeps (temporary_name want) (control_name want) bytes x y
        → files_in want y ≡ files_in want x
    files_put x y puts = files_same want y x
        (λ k d within. puts.others (name_of want.dir (get_or want.layout k d).path) (temporary_other want is k d within)
        (control_other want is k d within))

    saves_put : (seen x y z : Files) → files_in want y ≡ files_in want seen → IsSame x y
        → PutsOrKeeps (temporary_name want) (control_name want) bytes y z → Saves want bytes seen x z
    saves_put seen x y z durable same puts = record {
      others = λ name beside. puts.others name beside.temporary beside.control ∙ same name;
      files = ⊎_elim
          (λ keeps. inl (record {
            control = keeps ∙ same (control_name want);
            files = files_put y z puts ∙ files_kept want x y same;
          }))
          (λ put. inr (record { control = put; files = files_put y z puts ∙ durable })) puts.file;
    }

    module _ (a b c : DiskState) (synced : Performs IsSame a b) (durable : AreDurable want.dir want.layout b)
        (puts : Performs (PutsOrKeeps (temporary_name want) (control_name want) bytes) b c) where
      secured : (image : Files) → b.may_leave image → files_in want image ≡ files_in want a.seen
      secured image left = files_same want image b.seen (durable image left) ∙ files_kept want a.seen b.seen synced.seen

      pub performs_saved : Performs (Saves want bytes a.seen) a c
      performs_saved = record {
        seen = saves_put a.seen a.seen b.seen c.seen (files_kept want a.seen b.seen synced.seen) synced.seen puts.seen;
        passes = passes_on IsSame (PutsOrKeeps (temporary_name want) (control_name want) bytes)
            (Saves want bytes a.seen) a b c
            (saves_same want bytes a.seen)
            (λ x y z left one two. saves_put a.seen x y z (secured y left) one two)
            synced.passes
            puts.passes;
        reads = λ name. puts.reads name ∙ synced.reads name;
      }

      pub are_saved : IsDurable (control_name want) c → c.seen (control_name want) ≡ Some bytes
          → AreSaved want bytes a.seen c.may_leave
      are_saved lasts put image left =
          let from = image_before (PutsOrKeeps (temporary_name want) (control_name want) bytes) b c puts.passes image left in
          record {
            control = lasts image left ∙ put;
            files = files_put from.0 image from.2 ∙ secured from.0 from.1;
          }

pub unmade_after : (temporary : List ℕ) (a b c : DiskState) → Stays a b → Follows (SameBut temporary) b.may_leave c.may_leave
    → Follows (SameBut temporary) a.may_leave c.may_leave
unmade_after temporary a b c stays unmade image left =
    let from = unmade image left in (from.0, stays.images from.0 from.1, from.2)

pub saved_as : (want : Want) (a b : List ℕ) (seen : Files) (images : Files → Type 0) → a ≡ b
    → AreSaved want a seen images → AreSaved want b seen images
saved_as want a b seen images same saved = subst (λ (bytes : List ℕ). AreSaved want bytes seen images) same saved

pub ok_both : {T E A B C : Type 0} (result : Result T E) → (A → B → C) → OnOk result A → OnOk result B → OnOk result C
ok_both (Ok x) both a b = both a b
ok_both (Err e) both a b = a
