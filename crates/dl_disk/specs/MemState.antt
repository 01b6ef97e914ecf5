-- The state of a disk in memory, with its laws.
use Rattle.std.specs.Prelude.{◌≡◌, ℕ, List, [], ◌∷◌, Bool, true, false, Option, Some, None, refl, ◌↔◌, reverse, length, take}
use Rattle.std.proofs.Common.{ap, sym, subst, cond, inl}
use Rattle.std.proofs.Math.Seq.{take-length}
use Rattle.std.proofs.lemmas.Bool.{false_from_ne_true}
use Rattle.std.proofs.lemmas.Slice.Eq.{bytes_eq-Decides}
use Rattle.std.specs.Str.{bytes_eq}
use Rattle.dl_disk.specs.Files.{Files, Moved, Removes}
use Rattle.dl_disk.specs.Record.{changed, files_after, LeavesTried, Leaves, IsLeftAfter, reading_after, IsImageAfter, folders_made}
use Rattle.dl_disk.specs.Contents.{files_of}
use Rattle.dl_disk.specs.MemDisk.{calls_of, reading, IsImage, reading_at, IsImageAt, read_count}
use Rattle.dl_disk.specs.State.{DiskState}
use Rattle.dl_disk.specs.Tears.{may_edit, may_leave}
use Rattle.dl_disk.specs.declared.record.Call.{Call}
use Rattle.dl_disk.specs.declared.record.Action.{Action}
use Rattle.dl_disk.specs.declared.record.Action.TheVariants.{Look, Read, Change, Sync, MakeDir, Replace, Remove}
use Rattle.dl_disk.specs.declared.memory.MemDisk.{MemDisk}

-- a step that is only tried may be left undone
left_undone : (file : Option (List ℕ)) (step : Files → Files → Type 0) (before : Files → Type 0) (files : Files) → before files
    → LeavesTried file step before files
left_undone None step before files was = was
left_undone (Some file) step before files was = (files, was, inl (λ other. refl))

-- a call leaves the files as they are after it, where a crash might have left them as they were before
leaves_files : (files : Files) (before : Files → Type 0) (name : List ℕ) (action : Action) (done : Bool) → before files
    → Leaves files before name action done (cond done (changed files name action) files)
leaves_files files before name Look true was = was
leaves_files files before name Look false was = was
leaves_files files before name (Read at len) true was = was
leaves_files files before name (Read at len) false was = was
leaves_files files before name (Replace to) true was = (
  files,
  was,
  record {
    here = rw ((bytes_eq-Decides to to).1 refl) refl;
    gone = λ differs. rw (
      false_from_ne_true (bytes_eq to name) (λ same. differs (sym ((bytes_eq-Decides to name).0 same))),
      (bytes_eq-Decides name name).1 refl,
    ) refl;
    others = λ other from_name to_name. rw (
      false_from_ne_true (bytes_eq to other) (λ same. to_name (sym ((bytes_eq-Decides to other).0 same))),
      false_from_ne_true (bytes_eq name other) (λ same. from_name (sym ((bytes_eq-Decides name other).0 same))),
    ) refl;
  },
)
leaves_files files before name (Replace to) false was = left_undone (files name) (Moved name to) before files was
leaves_files files before name Remove true was = (
  files,
  was,
  record {
    here = rw ((bytes_eq-Decides name name).1 refl) refl;
    others = λ other differs. rw (false_from_ne_true (bytes_eq name other) (λ same. differs (sym ((bytes_eq-Decides name other).0 same)))) refl;
  },
)
leaves_files files before name Remove false was = left_undone (files name) (Removes name) before files was
leaves_files files before name Sync true was = (was, refl)
leaves_files files before name Sync false was = was
leaves_files files before name MakeDir true was = was
leaves_files files before name MakeDir false was = was
leaves_files files before name (Change edit) true was = (
  files,
  was,
  record {
    here = rw ((bytes_eq-Decides name name).1 refl) (may_edit edit (files name));
    others = λ other differs. rw (false_from_ne_true (bytes_eq name other) (λ same. differs (sym ((bytes_eq-Decides name other).0 same))));
  },
)
leaves_files files before name (Change edit) false was = (files, was, record { here = may_leave edit (files name); others = λ other differs. refl })

-- so what is read after some calls is what a crash then may leave
pub is_left_after : (start : Files) (calls : List Call) → IsLeftAfter start calls (files_after start calls)
is_left_after start [] = λ name. refl
is_left_after start (call ∷ calls) = leaves_files (files_after start calls) (IsLeftAfter start calls) call.name call.action call.done (is_left_after start calls)

-- all its calls are those up to now
pub all_calls : (disk : MemDisk) → take (length (calls_of disk)) (calls_of disk) ≡ calls_of disk
all_calls disk = take-length (calls_of disk)

pub image_now : (disk : MemDisk) (image : Files) → IsImageAt disk (length (calls_of disk)) image ↔ IsImage disk image
image_now disk image = (
  λ left. subst (λ (calls : List Call). IsImageAfter (files_of disk.start) calls image) (all_calls disk) left,
  λ left. subst (λ (calls : List Call). IsImageAfter (files_of disk.start) calls image) (sym (all_calls disk)) left,
)

-- the state of a disk in memory: its moment is the number of its calls
abbrev pub state_of : MemDisk → DiskState
state_of disk = record {
  seen = reading disk;
  may_leave = IsImage disk;
  moment = length (calls_of disk);
  seen_at = reading_at disk;
  left_at = IsImageAt disk;
  reads = read_count disk;
  folders = folders_made (calls_of disk);
  own_image = is_left_after (files_of disk.start) (reverse (calls_of disk));
  now_seen = ap (λ (calls : List Call). reading_after (files_of disk.start) calls) (all_calls disk);
  now_left = image_now disk;
}
