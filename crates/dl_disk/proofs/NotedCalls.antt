-- What a call that a disk in memory noted does to its state.
use Rattle.std.proofs.Common.{inl, inr, sym, Option, Some, None, is_some, IsSome, IsTrue, ◌≡◌, ◌≢◌, ◌∙◌, ◌↔◌, ◌≤◌, ap, ℕ, ◌+◌, Bool, true, false, cond, List, [], ◌∷◌, ◌++◌, length, take, Result, Ok, Err, OnOk, OnErr, IsErrOf, refl, count_by, add-zero, arith, length-append}
use Rattle.std.proofs.lemmas.List.{take-append-le, reverse-append}
use Rattle.dl_kinds.specs.declared.outside.IoErr.{IoErr}
use Rattle.dl_kinds.specs.declared.outside.IoErr.TheVariants.{Fault, NoMemory}
use Rattle.dl_disk.specs.Calls.{Stays, Elapses, Looks, LooksInto, CountsRead, ReadsNothing, Alters, IsTaken, NeedsFile, MakesFolder}
use Rattle.dl_disk.specs.Contents.{files_of}
use Rattle.dl_disk.specs.Files.{Files, IsSame, Changes, MayMake, Moved, Removes, MayBe, Follows}
use Rattle.dl_disk.specs.Edit.{MayEdit, EditsFile}
use Rattle.dl_disk.specs.Record.{can_do, changed, moved, reads, makes_folder, folders_made, LeavesTried, Leaves}
use Rattle.dl_disk.specs.MemDisk.{calls_of, reading, reading_at, IsImage, IsImageAt, read_count, Notes}
use Rattle.dl_disk.specs.MemState.{state_of}
use Rattle.dl_disk.specs.State.{IsDurable}
use Rattle.dl_disk.specs.Tears.{may_edit, may_leave}
use Rattle.dl_disk.specs.declared.memory.MemDisk.{MemDisk}
use Rattle.dl_disk.specs.declared.edits.Edit.{Edit}
use Rattle.dl_disk.specs.declared.record.Action.{Action}
use Rattle.dl_disk.specs.declared.record.Action.TheVariants.{Look, Read, Change, Sync, MakeDir, Replace, Remove}
use Rattle.dl_disk.specs.declared.record.Call.{Call}
use Rattle.dl_disk.proofs.Names.{bytes_eq-same, bytes_eq-other}
use Rattle.dl_disk.proofs.RecordLemmas.{count_by-push, reading_more}

-- ---- a call that stands in the record, and one that doesn't

module _ (old new : MemDisk) (call : Call) (start : files_of new.start ≡ files_of old.start) (pushed : calls_of new ≡ calls_of old ++ call ∷ []) where
  seen_pushed : IsSame (cond call.done (changed (reading old) call.name call.action) (reading old)) (reading new)
  seen_pushed other = rw (start, pushed) (reading_more (files_of old.start) (calls_of old) call other)

  left_pushed : (image : Files) → IsImage new image → Leaves (reading old) (IsImage old) call.name call.action call.done image
  left_pushed image left = rw (start, pushed, reverse-append (calls_of old) (call ∷ [])) at left

  front_pushed : (t : ℕ) → t ≤ length (calls_of old) → take t (calls_of new) ≡ take t (calls_of old)
  front_pushed t before = rw pushed (take-append-le t (calls_of old) (call ∷ []) before)

  one_pushed : length (calls_of new) ≡ length (calls_of old) + 1
  one_pushed = rw pushed (length-append (calls_of old) (call ∷ []))

  reads_pushed : (name : List ℕ) → read_count new name ≡ read_count old name + cond (reads name call) 1 0
  reads_pushed name = rw pushed (count_by-push (reads name) (calls_of old) call)

  folders_pushed : (makes : Bool) → makes_folder call ≡ makes → folders_made (calls_of new) ≡ cond makes (call.name ∷ folders_made (calls_of old)) (folders_made (calls_of old))
  folders_pushed true is = rw (pushed, reverse-append (calls_of old) (call ∷ []), is) refl
  folders_pushed false is = rw (pushed, reverse-append (calls_of old) (call ∷ []), is) refl

module _ (old new : MemDisk) (start : files_of new.start ≡ files_of old.start) (same : calls_of new ≡ calls_of old) where
  seen_unmade : IsSame (reading old) (reading new)
  seen_unmade other = rw (start, same) refl

  left_unmade : (image : Files) → IsImage new image → IsImage old image
  left_unmade image left = rw (start, same) at left

  pub stays_unmade : Stays (state_of old) (state_of new)
  stays_unmade = record { seen = seen_unmade; images = left_unmade }

-- ---- time goes on

on_ok : {T E : Type 0} {P : Type 0} (result : Result T E) → P → OnOk result P
on_ok (Ok x) p = p
on_ok (Err e) p = tt

module _ (old new : MemDisk) (start : files_of new.start ≡ files_of old.start) (front : (t : ℕ) → t ≤ length (calls_of old) → take t (calls_of new) ≡ take t (calls_of old)) where
  seen_before : (t : ℕ) → t ≤ length (calls_of old) → reading_at new t ≡ reading_at old t
  seen_before t before = rw (start, front t before) refl

  left_before : (t : ℕ) (image : Files) → t ≤ length (calls_of old) → IsImageAt new t image ↔ IsImageAt old t image
  left_before t image before = rw (start, front t before) (λ left. left, λ left. left)

module _ {T : Type 0} (old new : MemDisk) (name : List ℕ) (action : Action) where
  elapses_pushed : (done : Bool) (result : Result T IoErr) → files_of new.start ≡ files_of old.start
      → calls_of new ≡ calls_of old ++ record { name = name; action = action; done = done } ∷ [] → (IsErrOf result NoMemory → ⊥) → Elapses (state_of old) (state_of new) result
  elapses_pushed done result start pushed made =
      let call : Call = record { name = name; action = action; done = done } in
      let one = one_pushed old new call start pushed in
      let front = front_pushed old new call start pushed in
      record {
        later = omega (arith, one);
        done = on_ok result one;
        failed = λ is. one;
        none = λ is. absurd (made is);
        seen = seen_before old new start front;
        left = left_before old new start front;
      }

  pub elapses : (result : Result T IoErr) → Notes old new name action result → Elapses (state_of old) (state_of new) result
  elapses (Ok x) notes = elapses_pushed true (Ok x) notes.start notes.done (λ is. cc)
  elapses (Err Fault) notes = elapses_pushed false (Err Fault) notes.start (notes.failed refl) (λ is. cc)
  elapses (Err NoMemory) notes =
      let same : length (calls_of new) ≡ length (calls_of old) = ap (λ (calls : List Call). length calls) (notes.none refl) in
      let front : (t : ℕ) → t ≤ length (calls_of old) → take t (calls_of new) ≡ take t (calls_of old) = λ t before. ap (λ (calls : List Call). take t calls) (notes.none refl) in
      record {
        later = omega (arith, same);
        done = tt;
        failed = λ is. cc;
        none = λ is. same;
        seen = seen_before old new notes.start front;
        left = left_before old new notes.start front;
      }

-- ---- what a call leaves alone

-- files that it neither changes nor makes last longer
module _ (old new : MemDisk) (name : List ℕ) (action : Action) (still : changed (reading old) name action ≡ reading old)
    (left : (done : Bool) (image : Files) → Leaves (reading old) (IsImage old) name action done image → IsImage old image) where
  seen_still : (done : Bool) → IsSame (cond done (changed (reading old) name action) (reading old)) (reading new) → IsSame (reading old) (reading new)
  seen_still true is other = is other ∙ ap (λ (files : Files). files other) still
  seen_still false is other = is other

  stays_pushed : (done : Bool) → files_of new.start ≡ files_of old.start → calls_of new ≡ calls_of old ++ record { name = name; action = action; done = done } ∷ [] → Stays (state_of old) (state_of new)
  stays_pushed done start pushed =
      let call : Call = record { name = name; action = action; done = done } in
      record {
        seen = seen_still done (seen_pushed old new call start pushed);
        images = λ image is. left done image (left_pushed old new call start pushed image is);
      }

  pub stays : {T : Type 0} (result : Result T IoErr) → Notes old new name action result → Stays (state_of old) (state_of new)
  stays (Ok x) notes = stays_pushed true notes.start notes.done
  stays (Err Fault) notes = stays_pushed false notes.start (notes.failed refl)
  stays (Err NoMemory) notes = stays_unmade old new notes.start (notes.none refl)

module _ {T : Type 0} (old new : MemDisk) (name : List ℕ) (action : Action) where
  -- the counts of reads
  pub reads_none : ((other : List ℕ) (done : Bool) → reads other (record { name = name; action = action; done = done }) ≡ false)
      → (result : Result T IoErr) → Notes old new name action result → ReadsNothing (state_of old) (state_of new)
  reads_none unread (Ok x) notes other = reads_pushed old new (record { name = name; action = action; done = true }) notes.start notes.done other ∙ rw (unread other true) (add-zero (read_count old other))
  reads_none unread (Err Fault) notes other = reads_pushed old new (record { name = name; action = action; done = false }) notes.start (notes.failed refl) other ∙ rw (unread other false) (add-zero (read_count old other))
  reads_none unread (Err NoMemory) notes other = ap (λ (calls : List Call). count_by (reads other) calls) (notes.none refl)

  -- the folders
  pub folders_none : ((done : Bool) → makes_folder (record { name = name; action = action; done = done }) ≡ false)
      → (result : Result T IoErr) → Notes old new name action result → folders_made (calls_of new) ≡ folders_made (calls_of old)
  folders_none unmade (Ok x) notes = folders_pushed old new (record { name = name; action = action; done = true }) notes.start notes.done false (unmade true)
  folders_none unmade (Err Fault) notes = folders_pushed old new (record { name = name; action = action; done = false }) notes.start (notes.failed refl) false (unmade false)
  folders_none unmade (Err NoMemory) notes = ap folders_made (notes.none refl)

-- ---- looks

pub looks : {T : Type 0} (old new : MemDisk) (name : List ℕ) (result : Result T IoErr) → Notes old new name Look result → Looks (state_of old) (state_of new) result
looks old new name result notes = record {
  stays = stays old new name Look refl still result notes;
  time = elapses old new name Look result notes;
  reads = reads_none old new name Look (λ other done. refl) result notes;
  folders = folders_none old new name Look (λ done. refl) result notes;
}
  where
    still : (done : Bool) (image : Files) → Leaves (reading old) (IsImage old) name Look done image → IsImage old image
    still true image left = left
    still false image left = left

pub syncs : (old new : MemDisk) (name : List ℕ) (result : Result (Unit {0}) IoErr) → Notes old new name Sync result → Looks (state_of old) (state_of new) result
syncs old new name result notes = record {
  stays = stays old new name Sync refl still result notes;
  time = elapses old new name Sync result notes;
  reads = reads_none old new name Sync (λ other done. refl) result notes;
  folders = folders_none old new name Sync (λ done. refl) result notes;
}
  where
    still : (done : Bool) (image : Files) → Leaves (reading old) (IsImage old) name Sync done image → IsImage old image
    still true image left = left.0
    still false image left = left

-- what was synced lasts
pub lasts : (old new : MemDisk) (name : List ℕ) (result : Result (Unit {0}) IoErr) → Notes old new name Sync result → OnOk result (IsDurable name (state_of new))
lasts old new name (Ok x) notes = λ image left.
    let call : Call = record { name = name; action = Sync; done = true } in
    (left_pushed old new call notes.start notes.done image left).1 ∙ sym (seen_pushed old new call notes.start notes.done name)
lasts old new name (Err e) notes = tt

module _ (old new : MemDisk) (name : List ℕ) (at len : ℕ) where
  abbrev read_of : Bool → Call
  read_of done = record { name = name; action = Read at len; done = done }

  read_counted : (done : Bool) → reads name (read_of done) ≡ true
  read_counted done = bytes_eq-same name

  read_of_other : (done : Bool) (other : List ℕ) → other ≢ name → reads other (read_of done) ≡ false
  read_of_other done other differs = bytes_eq-other name other differs

  counts_pushed : (done : Bool) → files_of new.start ≡ files_of old.start → calls_of new ≡ calls_of old ++ read_of done ∷ [] → read_count new name ≡ read_count old name + 1
  counts_pushed done start pushed = reads_pushed old new (read_of done) start pushed name ∙ rw (read_counted done) refl

  others_pushed : (done : Bool) → files_of new.start ≡ files_of old.start → calls_of new ≡ calls_of old ++ read_of done ∷ [] → (other : List ℕ) → other ≢ name → read_count new other ≡ read_count old other
  others_pushed done start pushed other differs = reads_pushed old new (read_of done) start pushed other ∙ rw (read_of_other done other differs) (add-zero (read_count old other))

  counts_read : (result : Result (Unit {0}) IoErr) → Notes old new name (Read at len) result → CountsRead name (state_of old) (state_of new) result
  counts_read (Ok x) notes = record {
    done = counts_pushed true notes.start notes.done;
    failed = λ is. cc;
    none = λ is. cc;
    others = others_pushed true notes.start notes.done;
  }
  counts_read (Err Fault) notes = record {
    done = tt;
    failed = λ is. counts_pushed false notes.start (notes.failed refl);
    none = λ is. cc;
    others = others_pushed false notes.start (notes.failed refl);
  }
  counts_read (Err NoMemory) notes = record {
    done = tt;
    failed = λ is. cc;
    none = λ is. ap (λ (calls : List Call). count_by (reads name) calls) (notes.none refl);
    others = λ other differs. ap (λ (calls : List Call). count_by (reads other) calls) (notes.none refl);
  }

  pub looks_into : (result : Result (Unit {0}) IoErr) → Notes old new name (Read at len) result → LooksInto name (state_of old) (state_of new) result
  looks_into result notes = record {
    stays = stays old new name (Read at len) refl still result notes;
    time = elapses old new name (Read at len) result notes;
    reads = counts_read result notes;
    folders = folders_none old new name (Read at len) (λ done. refl) result notes;
  }
    where
      still : (done : Bool) (image : Files) → Leaves (reading old) (IsImage old) name (Read at len) done image → IsImage old image
      still true image left = left
      still false image left = left

pub makes : (old new : MemDisk) (name : List ℕ) (result : Result (Unit {0}) IoErr) → Notes old new name MakeDir result → MakesFolder name (state_of old) (state_of new) result
makes old new name result notes = record {
  stays = stays old new name MakeDir refl still result notes;
  time = elapses old new name MakeDir result notes;
  reads = reads_none old new name MakeDir (λ other done. refl) result notes;
  made = made_by result notes;
  unmade = unmade_by result notes;
}
  where
    still : (done : Bool) (image : Files) → Leaves (reading old) (IsImage old) name MakeDir done image → IsImage old image
    still true image left = left
    still false image left = left

    made_by : (result : Result (Unit {0}) IoErr) → Notes old new name MakeDir result → OnOk result (folders_made (calls_of new) ≡ name ∷ folders_made (calls_of old))
    made_by (Ok x) notes = folders_pushed old new (record { name = name; action = MakeDir; done = true }) notes.start notes.done true refl
    made_by (Err e) notes = tt

    unmade_by : (result : Result (Unit {0}) IoErr) → Notes old new name MakeDir result → OnErr result (folders_made (calls_of new) ≡ folders_made (calls_of old))
    unmade_by (Ok x) notes = tt
    unmade_by (Err Fault) notes = folders_pushed old new (record { name = name; action = MakeDir; done = false }) notes.start (notes.failed refl) false refl
    unmade_by (Err NoMemory) notes = ap folders_made (notes.none refl)

-- ---- calls that change files

-- The whole step, where the call is done, is one of the steps that it may take where it fails, and so is none.
module _ (old new : MemDisk) (name : List ℕ) (action : Action) (step : Files → Files → Type 0)
    (whole : (before after : Files) → IsSame (changed before name action) after → step before after)
    (nothing : (before after : Files) → IsSame before after → step before after)
    (left : (done : Bool) (image : Files) → Leaves (reading old) (IsImage old) name action done image → (before : Files) × IsImage old before × step before image) where
  step_taken : (result : Result (Unit {0}) IoErr) → Notes old new name action result → step (reading old) (reading new)
  step_taken (Ok x) notes = whole (reading old) (reading new) (seen_pushed old new (record { name = name; action = action; done = true }) notes.start notes.done)
  step_taken (Err Fault) notes = nothing (reading old) (reading new) (seen_pushed old new (record { name = name; action = action; done = false }) notes.start (notes.failed refl))
  step_taken (Err NoMemory) notes = nothing (reading old) (reading new) (seen_unmade old new notes.start (notes.none refl))

  step_left : (result : Result (Unit {0}) IoErr) → Notes old new name action result → Follows step (IsImage old) (IsImage new)
  step_left (Ok x) notes image is = left true image (left_pushed old new (record { name = name; action = action; done = true }) notes.start notes.done image is)
  step_left (Err Fault) notes image is = left false image (left_pushed old new (record { name = name; action = action; done = false }) notes.start (notes.failed refl) image is)
  step_left (Err NoMemory) notes image is = (image, left_unmade old new notes.start (notes.none refl) image is, nothing image image (λ other. refl))

  stays_none : (result : Result (Unit {0}) IoErr) → Notes old new name action result → IsErrOf result NoMemory → Stays (state_of old) (state_of new)
  stays_none result notes is = stays_unmade old new notes.start (notes.none is)

  pub alters : ((other : List ℕ) (done : Bool) → reads other (record { name = name; action = action; done = done }) ≡ false)
      → ((done : Bool) → makes_folder (record { name = name; action = action; done = done }) ≡ false)
      → (result : Result (Unit {0}) IoErr) → Notes old new name action result → Alters step (state_of old) (state_of new) result
  alters unread unmade result notes = record {
    seen = step_taken result notes;
    images = step_left result notes;
    none = stays_none result notes;
    time = elapses old new name action result notes;
    reads = reads_none old new name action unread result notes;
    folders = folders_none old new name action unmade result notes;
  }

module _ (name : List ℕ) (edit : Edit) where
  -- a whole edit, none, and one cut short
  edits_file : (before after : Files) → IsSame (changed before name (Change edit)) after → EditsFile name edit before after
  edits_file before after same = record {
    here = same name ∙ rw (bytes_eq-same name) refl;
    others = λ other differs. same other ∙ rw (bytes_eq-other name other differs) refl;
  }

  changes_whole : (before after : Files) → IsSame (changed before name (Change edit)) after → Changes name (MayMake (MayEdit edit)) before after
  changes_whole before after same =
      let edits = edits_file before after same in
      record { here = rw (edits.here) (may_edit edit (before name)); others = edits.others }

  changes_nothing : (before after : Files) → IsSame before after → Changes name (MayMake (MayEdit edit)) before after
  changes_nothing before after same = record { here = rw (same name) (may_leave edit (before name)); others = λ other differs. same other }

  pub edits : (old new : MemDisk) (result : Result (Unit {0}) IoErr) → Notes old new name (Change edit) result → OnOk result (EditsFile name edit (reading old) (reading new))
  edits old new (Ok x) notes = edits_file (reading old) (reading new) (seen_pushed old new (record { name = name; action = Change edit; done = true }) notes.start notes.done)
  edits old new (Err e) notes = tt

  pub alters_file : (old new : MemDisk) (result : Result (Unit {0}) IoErr) → Notes old new name (Change edit) result → Alters (Changes name (MayMake (MayEdit edit))) (state_of old) (state_of new) result
  alters_file old new result notes = alters old new name (Change edit) (Changes name (MayMake (MayEdit edit))) changes_whole changes_nothing by_case (λ other done. refl) (λ done. refl) result notes
    where
      by_case : (done : Bool) (image : Files) → Leaves (reading old) (IsImage old) name (Change edit) done image → (before : Files) × IsImage old before × Changes name (MayMake (MayEdit edit)) before image
      by_case true image left = left
      by_case false image left = left

-- a step that was tried is taken or not
may_be_left : (file : Option (List ℕ)) (step : Files → Files → Type 0) (before : Files → Type 0) (image : Files) → LeavesTried file step before image
    → (old : Files) × before old × MayBe step old image
may_be_left None step before image left = (image, left, inl (λ other. refl))
may_be_left (Some file) step before image left = left

-- where the file that it needs isn't there it isn't
not_tried : (file : Option (List ℕ)) (step : Files → Files → Type 0) (before : Files → Type 0) (image : Files) → file ≡ None → LeavesTried file step before image → before image
not_tried None step before image none left = left
not_tried (Some file) step before image none left = cc none

is_there : (file : Option (List ℕ)) → IsTrue (is_some file) → IsSome file
is_there file is = is

not_there : (file : Option (List ℕ)) → IsTrue (is_some file) → file ≡ None → ⊥
not_there None is none = cc is
not_there (Some file) is none = cc none

-- a call that needs a file
module _ (old new : MemDisk) (name : List ℕ) (action : Action) (step : Files → Files → Type 0)
    (needs : can_do (reading old) name action ≡ is_some (reading old name))
    (tried : (image : Files) → Leaves (reading old) (IsImage old) name action false image → LeavesTried (reading old name) step (IsImage old) image) where
  missing_failed : reading old name ≡ None → files_of new.start ≡ files_of old.start
      → calls_of new ≡ calls_of old ++ record { name = name; action = action; done = false } ∷ [] → Stays (state_of old) (state_of new)
  missing_failed none start pushed =
      let call : Call = record { name = name; action = action; done = false } in
      record {
        seen = seen_pushed old new call start pushed;
        images = λ image is. not_tried (reading old name) step (IsImage old) image none (tried image (left_pushed old new call start pushed image is));
      }

  pub needs_file : (result : Result (Unit {0}) IoErr) → Notes old new name action result → OnOk result (IsTrue (can_do (reading old) name action)) → NeedsFile name (state_of old) (state_of new) result
  needs_file (Ok x) notes possible = record {
    there = is_there (reading old name) (rw needs at possible);
    missing = λ none. absurd (not_there (reading old name) (rw needs at possible) none);
  }
  needs_file (Err Fault) notes possible = record { there = tt; missing = λ none. missing_failed none notes.start (notes.failed refl) }
  needs_file (Err NoMemory) notes possible = record { there = tt; missing = λ none. stays_unmade old new notes.start (notes.none refl) }

-- a file that was moved
pub is_moved : (from to : List ℕ) (old new : Files) → IsSame (moved old from to) new → Moved from to old new
is_moved from to old new same = record {
  here = same to ∙ rw (bytes_eq-same to) refl;
  gone = λ differs. same from ∙ rw (bytes_eq-other to from differs, bytes_eq-same from) refl;
  others = λ other from_other to_other. same other ∙ rw (bytes_eq-other to other to_other, bytes_eq-other from other from_other) refl;
}

module _ (old new : MemDisk) (from to : List ℕ) where
  pub moves : (result : Result (Unit {0}) IoErr) → Notes old new from (Replace to) result → OnOk result (IsTaken (Moved from to) (state_of old) (state_of new))
  moves (Ok x) notes =
      let call : Call = record { name = from; action = Replace to; done = true } in
      record {
        seen = is_moved from to (reading old) (reading new) (seen_pushed old new call notes.start notes.done);
        images = left_pushed old new call notes.start notes.done;
      }
  moves (Err e) notes = tt

  pub move_needs : (result : Result (Unit {0}) IoErr) → Notes old new from (Replace to) result → OnOk result (IsTrue (can_do (reading old) from (Replace to))) → NeedsFile from (state_of old) (state_of new) result
  move_needs = needs_file old new from (Replace to) (Moved from to) refl (λ image left. left)

  pub may_move : (result : Result (Unit {0}) IoErr) → Notes old new from (Replace to) result → Alters (MayBe (Moved from to)) (state_of old) (state_of new) result
  may_move result notes = alters old new from (Replace to) (MayBe (Moved from to)) (λ before after same. inr (is_moved from to before after same)) (λ before after same. inl same) by_case (λ other done. refl) (λ done. refl) result notes
    where
      by_case : (done : Bool) (image : Files) → Leaves (reading old) (IsImage old) from (Replace to) done image → (before : Files) × IsImage old before × MayBe (Moved from to) before image
      by_case true image left = (left.0, left.1, inr left.2)
      by_case false image left = may_be_left (reading old from) (Moved from to) (IsImage old) image left

-- a file that was taken away
is_removed : (name : List ℕ) (old new : Files) → IsSame (changed old name Remove) new → Removes name old new
is_removed name old new same = record {
  here = same name ∙ rw (bytes_eq-same name) refl;
  others = λ other differs. same other ∙ rw (bytes_eq-other name other differs) refl;
}

module _ (old new : MemDisk) (name : List ℕ) where
  pub removes : (result : Result (Unit {0}) IoErr) → Notes old new name Remove result → OnOk result (IsTaken (Removes name) (state_of old) (state_of new))
  removes (Ok x) notes =
      let call : Call = record { name = name; action = Remove; done = true } in
      record {
        seen = is_removed name (reading old) (reading new) (seen_pushed old new call notes.start notes.done);
        images = left_pushed old new call notes.start notes.done;
      }
  removes (Err e) notes = tt

  pub remove_needs : (result : Result (Unit {0}) IoErr) → Notes old new name Remove result → OnOk result (IsTrue (can_do (reading old) name Remove)) → NeedsFile name (state_of old) (state_of new) result
  remove_needs = needs_file old new name Remove (Removes name) refl (λ image left. left)

  pub may_remove : (result : Result (Unit {0}) IoErr) → Notes old new name Remove result → Alters (MayBe (Removes name)) (state_of old) (state_of new) result
  may_remove result notes = alters old new name Remove (MayBe (Removes name)) (λ before after same. inr (is_removed name before after same)) (λ before after same. inl same) by_case (λ other done. refl) (λ done. refl) result notes
    where
      by_case : (done : Bool) (image : Files) → Leaves (reading old) (IsImage old) name Remove done image → (before : Files) × IsImage old before × MayBe (Removes name) before image
      by_case true image left = (left.0, left.1, inr left.2)
      by_case false image left = may_be_left (reading old name) (Removes name) (IsImage old) image left
