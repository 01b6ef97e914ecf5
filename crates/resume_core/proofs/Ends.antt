-- A control file is taken away beside a payload that lasts.
use Rattle.std.proofs.Common.{◌≡◌, inl, inr, ⊎_elim, ◌∙◌, sym, refl}
use Rattle.std.specs.Prelude.{Result}
use Rattle.dl_kinds.specs.declared.outside.IoErr.{IoErr}
use Rattle.dl_disk.specs.Calls.{Alters, IsTaken}
use Rattle.dl_disk.specs.Files.{Files, IsSame, MayBe, Removes}
use Rattle.dl_disk.specs.Passes.{Performs, performs_none, performs_wider, passes_alters, passes_on}
use Rattle.dl_disk.specs.State.{DiskState, LeftSince}
use Rattle.payload_files.specs.Names.{IsOther}
use Rattle.payload_files.specs.Payload.{AreDurable}
use Rattle.control_file.specs.declared.want.Want.{Want}
use Rattle.resume_core.specs.Resume.{AreSound}
use Rattle.resume_core.specs.Steps.{SameFor, IsFinished, Finishes, AreFinished}
use Rattle.resume_core.specs.Wants.{control_name, files_in}
use Rattle.resume_core.proofs.Filed.{files_same, files_kept, files_beside}
use Rattle.resume_core.proofs.Same.{sound_same, agrees_same, agrees_seen}
use Rattle.resume_core.proofs.Saving.{sound_finished, agrees_finished}

finishes_same : (want : Want) (seen x y : Files) → IsSame x y → Finishes want seen x y
finishes_same want seen x y same = record { others = λ name differs. same name; files = inl same }

module _ (want : Want) (other : IsOther want.dir want.layout (control_name want)) where
  finished : (seen y z : Files) → files_in want y ≡ files_in want seen → Removes (control_name want) y z
      → IsFinished want seen z
  finished seen y z durable removed = record {
    gone = removed.here;
    files = files_beside want (control_name want) y z other removed.others ∙ durable;
  }

  finishes_both : (seen x y z : Files) → files_in want y ≡ files_in want seen → IsSame x y
      → MayBe (Removes (control_name want)) y z → Finishes want seen x z
  finishes_both seen x y z durable same (inl kept) = finishes_same want seen x z (λ name. kept name ∙ same name)
  finishes_both seen x y z durable same (inr removed) = record {
    others = λ name differs. removed.others name differs ∙ same name;
    files = inr (finished seen y z durable removed);
  }

  module _ (a b c : DiskState) (synced : Performs IsSame a b) (durable : AreDurable want.dir want.layout b) where
    read : files_in want b.seen ≡ files_in want a.seen
    read = files_kept want a.seen b.seen synced.seen

    pub performs_finish : (result : Result (Unit {0}) IoErr) → Alters (MayBe (Removes (control_name want))) b c result
        → Performs (Finishes want a.seen) a c
    performs_finish result alters = record {
      seen = finishes_both a.seen a.seen b.seen c.seen read synced.seen alters.seen;
      passes = passes_on IsSame (MayBe (Removes (control_name want))) (Finishes want a.seen) a b c
          (finishes_same want a.seen)
          (λ x y z left one two. finishes_both a.seen x y z
          (files_same want y b.seen (durable y left) ∙ read) one two)
          synced.passes
          (passes_alters (MayBe (Removes (control_name want))) b c result (λ image. inl (λ name. refl)) alters);
      reads = λ name. alters.reads name ∙ synced.reads name;
    }

    pub are_finished : IsTaken (Removes (control_name want)) b c → AreFinished want a.seen c.may_leave
    are_finished taken image left =
        let from = taken.images image left in
        finished a.seen from.0 image (files_same want from.0 b.seen (durable from.0 from.1) ∙ read) from.2

  -- the payload alone was made to last
  pub performs_synced : (a b : DiskState) → Performs IsSame a b → Performs (Finishes want a.seen) a b
  performs_synced a b = performs_wider IsSame (Finishes want a.seen) a b (finishes_same want a.seen)

  -- nothing was done
  pub performs_unfinished : (disk : DiskState) → Performs (Finishes want disk.seen) disk disk
  performs_unfinished disk = performs_none (Finishes want disk.seen) disk
      (λ files. finishes_same want disk.seen files files (λ name. refl))

  module _ (a c : DiskState) (performs : Performs (Finishes want a.seen) a c) where
    pub payload_kept : files_in want c.seen ≡ files_in want a.seen
    payload_kept = files_beside want (control_name want) a.seen c.seen other performs.seen.others

    pub sound_throughout : AreSound want a.seen a.may_leave → AreSound want c.seen (LeftSince c a.moment)
    sound_throughout were image left =
        let from = performs.passes.images left.0 image left.1 left.2 left.3 in
        let was = were from.0 from.1 in
        let later = agrees_seen want a.seen c.seen image payload_kept in
        ⊎_elim
        (λ same.
        let same_for : SameFor want from.0 image = record {
          control = same (control_name want);
          files = files_kept want from.0 image same;
        } in
        (sound_same want from.0 image same_for was.0, later (agrees_same want a.seen from.0 image same_for was.1)))
        (λ gone. (sound_finished want a.seen image gone, later (agrees_finished want a.seen image gone))) from.2.files

    -- the payload as the disk reads it now
    pub finished_now : AreFinished want a.seen c.may_leave → AreFinished want c.seen c.may_leave
    finished_now are image left = let is = are image left in record {
      gone = is.gone;
      files = is.files ∙ sym payload_kept;
    }
