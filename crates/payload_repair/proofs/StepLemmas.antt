-- StepsBy of a disk: how they go on, and which steps its calls take.
use Rattle.std.proofs.Common.{◌≡◌, ◌∙◌, sym, subst, ℕ, List, [], ◌∷◌, refl}
use Rattle.std.specs.Prelude.{Result, Ok, Err, OnOk, IfOk, Contains}
use Rattle.std.proofs.lemmas.List.Elements.{Contains-append_right}
use Rattle.dl_kinds.specs.declared.outside.IoErr.{IoErr}
use Rattle.dl_disk.specs.Calls.{Looks, LooksInto, Alters, MakesFolder}
use Rattle.dl_disk.specs.Files.{Files, IsSame}
use Rattle.dl_disk.specs.Passes.{passes_none, passes_on, passes_wider, passes_look, passes_look_into, passes_folder, passes_call}
use Rattle.dl_disk.specs.State.{DiskState}
use Rattle.payload_files.specs.Names.{KeepsFolders}
use Rattle.payload_repair.specs.StepsBy.{StepsBy}

pub steps_none : (step : Files → Files → Type 0) (disk : DiskState) → ((files : Files) → step files files) → StepsBy step disk disk
steps_none step disk none = record { seen = none disk.seen; passes = passes_none step disk none; folders = λ folder has. has }

pub steps_on : (first second whole : Files → Files → Type 0) (a b c : DiskState)
    → ((x y : Files) → first x y → whole x y) → ((x y z : Files) → first x y → second y z → whole x z)
    → StepsBy first a b → StepsBy second b c → StepsBy whole a c
steps_on first second whole a b c one both front back = record {
  seen = both a.seen b.seen c.seen front.seen back.seen;
  passes = passes_on first second whole a b c one (λ x y z left. both x y z) front.passes back.passes;
  folders = λ folder has. back.folders folder (front.folders folder has);
}

pub steps_more : (step : Files → Files → Type 0) (a b c : DiskState) → ((x y z : Files) → step x y → step y z → step x z)
    → StepsBy step a b → StepsBy step b c → StepsBy step a c
steps_more step a b c on = steps_on step step step a b c (λ x y is. is) on

pub steps_wider : (step whole : Files → Files → Type 0) (a b : DiskState) → ((x y : Files) → step x y → whole x y) → StepsBy step a b → StepsBy whole a b
steps_wider step whole a b wider steps = record {
  seen = wider a.seen b.seen steps.seen;
  passes = passes_wider step whole a b wider steps.passes;
  folders = steps.folders;
}

same_folders : (old new : List (List ℕ)) → new ≡ old → KeepsFolders old new
same_folders old new same folder has = subst (λ (folders : List (List ℕ)). Contains folders folder) (sym same) has

pub steps_look : {T : Type 0} (old new : DiskState) (result : Result T IoErr) → Looks old new result → StepsBy IsSame old new
steps_look old new result looks = record {
  seen = looks.stays.seen;
  passes = passes_look IsSame old new result (λ image name. refl) looks;
  folders = same_folders old.folders new.folders looks.folders;
}

pub steps_look_into : (name : List ℕ) (old new : DiskState) (result : Result (Unit {0}) IoErr) → LooksInto name old new result → StepsBy IsSame old new
steps_look_into name old new result looks = record {
  seen = looks.stays.seen;
  passes = passes_look_into IsSame name old new result (λ image other. refl) looks;
  folders = same_folders old.folders new.folders looks.folders;
}

made_folders : (name : List ℕ) (old new : DiskState) (result : Result (Unit {0}) IoErr) → MakesFolder name old new result → KeepsFolders old.folders new.folders
made_folders name old new (Ok done) makes = λ folder has.
    subst (λ (folders : List (List ℕ)). Contains folders folder) (sym makes.made) (Contains-append_right (name ∷ []) old.folders folder has)
made_folders name old new (Err e) makes = same_folders old.folders new.folders makes.unmade

pub steps_folder : (name : List ℕ) (old new : DiskState) (result : Result (Unit {0}) IoErr) → MakesFolder name old new result → StepsBy IsSame old new
steps_folder name old new result makes = record {
  seen = makes.stays.seen;
  passes = passes_folder IsSame name old new result (λ image other. refl) makes;
  folders = made_folders name old new result makes;
}

-- a call that takes a narrower step
pub steps_alters : (torn step : Files → Files → Type 0) (old new : DiskState) (result : Result (Unit {0}) IoErr) → ((files : Files) → step files files)
    → ((x y : Files) → torn x y → step x y) → Alters torn old new result → StepsBy step old new
steps_alters torn step old new result none wider alters = record {
  seen = wider old.seen new.seen alters.seen;
  passes = passes_call step old new result none alters.time (λ image left. let from = alters.images image left in (from.0, from.1, wider from.0 image from.2));
  folders = same_folders old.folders new.folders alters.folders;
}

-- calls that change nothing, in front and behind
pub same_on : (a b c : DiskState) → StepsBy IsSame a b → StepsBy IsSame b c → StepsBy IsSame a c
same_on a b c = steps_more IsSame a b c (λ x y z one two name. two name ∙ one name)

pub on_ok_both : {T E P Q S : Type 0} (r : Result T E) → (P → Q → S) → OnOk r P → OnOk r Q → OnOk r S
on_ok_both (Ok x) both p q = both p q
on_ok_both (Err e) both p q = tt

pub if_ok_then : {T E : Type 0} (r : Result T E) (P Q : T → Type 0) → ((x : T) → P x → Q x) → IfOk r P → IfOk r Q
if_ok_then (Ok x) P Q then is = then x is
if_ok_then (Err e) P Q then is = tt
