-- What a crash at any moment of some calls may leave, and how calls compose.
use Rattle.std.specs.Prelude.{◌≡◌, ◌≤◌, ◌⊎◌, ℕ, ◌+◌, List, ◌↔◌, Result, Ok, Err, refl}
use Rattle.std.proofs.Common.{◌∙◌, subst, arith, ⊎_elim, inl, inr}
use Rattle.std.proofs.lemmas.Bool.{cases_lt}
use Rattle.dl_kinds.specs.declared.outside.IoErr.{IoErr}
use Rattle.dl_kinds.specs.declared.outside.IoErr.TheVariants.{Fault, NoMemory}
use Rattle.dl_disk.specs.Files.{Files, Follows, IsSame}
use Rattle.dl_disk.specs.State.{DiskState, LeftSince}
use Rattle.dl_disk.specs.Calls.{Stays, Elapses, Looks, LooksInto, Alters, MakesFolder, ReadsNothing}

-- From old to new time goes on, and what was told of earlier moments is told still. Whatever a crash at any moment
-- between them leaves, it comes of an image at old by the step.
pub record Passes (step : Files → Files → Type 0) (old new : DiskState) : Type 0 where
  pub later : old.moment ≤ new.moment
  pub seen : (t : ℕ) → t ≤ old.moment → new.seen_at t ≡ old.seen_at t
  pub left : (t : ℕ) (image : Files) → t ≤ old.moment → new.left_at t image ↔ old.left_at t image
  pub images : (t : ℕ) (image : Files) → old.moment ≤ t → t ≤ new.moment → new.left_at t image → (before : Files) × old.may_leave before × step before image

-- no call
pub passes_none : (step : Files → Files → Type 0) (disk : DiskState) → ((image : Files) → step image image) → Passes step disk disk
passes_none step disk none = record {
  later = omega arith;
  seen = λ t before. refl;
  left = λ t image before. (λ is. is, λ is. is);
  images = λ t image after before left.
      let now : t ≡ disk.moment = omega (arith, after, before) in
      (image, (disk.now_left image).0 (subst (λ (t : ℕ). disk.left_at t image) now left), none image);
}

-- some calls, and further ones
pub passes_on : (first second whole : Files → Files → Type 0) (a b c : DiskState)
    → ((x y : Files) → first x y → whole x y) → ((x y z : Files) → b.may_leave y → first x y → second y z → whole x z)
    → Passes first a b → Passes second b c → Passes whole a c
passes_on first second whole a b c one both front back = record {
  later = omega (arith, front.later, back.later);
  seen = λ t before. back.seen t (omega (arith, before, front.later)) ∙ front.seen t before;
  left = λ t image before.
      let upper = back.left t image (omega (arith, before, front.later)) in
      let lower = front.left t image before in
      (λ is. lower.0 (upper.0 is), λ is. upper.1 (lower.1 is));
  images = λ t image after before left. ⊎_elim
      (λ early. let upto : t ≤ b.moment = omega (arith, early) in
      let from = front.images t image after upto ((back.left t image upto).0 left) in
      (from.0, from.1, one from.0 image from.2))
      (λ late. let mid = back.images t image late before left in
      let from = front.images b.moment mid.0 front.later (omega arith) ((b.now_left mid.0).1 mid.1) in
      (from.0, from.1, both from.0 mid.0 image mid.1 from.2 mid.2))
      (cases_lt t b.moment);
}

-- the same of a step that goes on from itself
pub passes_more : (step : Files → Files → Type 0) (a b c : DiskState) → ((x y z : Files) → step x y → step y z → step x z)
    → Passes step a b → Passes step b c → Passes step a c
passes_more step a b c on = passes_on step step step a b c (λ x y is. is) (λ x y z left. on x y z)

-- the step is one of these
pub passes_wider : (step whole : Files → Files → Type 0) (a b : DiskState) → ((x y : Files) → step x y → whole x y) → Passes step a b → Passes whole a b
passes_wider step whole a b wider passes = record {
  later = passes.later;
  seen = passes.seen;
  left = passes.left;
  images = λ t image after before left. let from = passes.images t image after before left in (from.0, from.1, wider from.0 image from.2);
}

one_more : {T : Type 0} (old new : DiskState) (result : Result T IoErr) → Elapses old new result → new.moment ≤ old.moment + 1
one_more old new (Ok x) elapses = omega (arith, elapses.done)
one_more old new (Err Fault) elapses = omega (arith, elapses.failed refl)
one_more old new (Err NoMemory) elapses = omega (arith, elapses.none refl)

-- one call
pub passes_call : {T : Type 0} (step : Files → Files → Type 0) (old new : DiskState) (result : Result T IoErr) → ((image : Files) → step image image)
    → Elapses old new result → Follows step old.may_leave new.may_leave → Passes step old new
passes_call step old new result none elapses follows = record {
  later = elapses.later;
  seen = elapses.seen;
  left = elapses.left;
  images = λ t image after before left. ⊎_elim
      (λ late. let now : t ≡ new.moment = omega (arith, late, before, one_more old new result elapses) in
      follows image ((new.now_left image).0 (subst (λ (t : ℕ). new.left_at t image) now left)))
      (λ early. let now : t ≡ old.moment = omega (arith, after, early) in
      (image, (old.now_left image).0 (subst (λ (t : ℕ). old.left_at t image) now ((elapses.left t image early).0 left)), none image))
      (cases_lt old.moment t);
}

-- a call that changes nothing
pub passes_stays : {T : Type 0} (step : Files → Files → Type 0) (old new : DiskState) (result : Result T IoErr) → ((image : Files) → step image image)
    → Elapses old new result → Stays old new → Passes step old new
passes_stays step old new result none elapses stays = passes_call step old new result none elapses (λ image left. (image, stays.images image left, none image))

pub passes_look : {T : Type 0} (step : Files → Files → Type 0) (old new : DiskState) (result : Result T IoErr) → ((image : Files) → step image image)
    → Looks old new result → Passes step old new
passes_look step old new result none looks = passes_stays step old new result none looks.time looks.stays

pub passes_look_into : (step : Files → Files → Type 0) (name : List ℕ) (old new : DiskState) (result : Result (Unit {0}) IoErr) → ((image : Files) → step image image)
    → LooksInto name old new result → Passes step old new
passes_look_into step name old new result none looks = passes_stays step old new result none looks.time looks.stays

pub passes_folder : (step : Files → Files → Type 0) (name : List ℕ) (old new : DiskState) (result : Result (Unit {0}) IoErr) → ((image : Files) → step image image)
    → MakesFolder name old new result → Passes step old new
passes_folder step name old new result none makes = passes_stays step old new result none makes.time makes.stays

-- a call that changes files
pub passes_alters : (step : Files → Files → Type 0) (old new : DiskState) (result : Result (Unit {0}) IoErr) → ((image : Files) → step image image)
    → Alters step old new result → Passes step old new
passes_alters step old new result none alters = passes_call step old new result none alters.time alters.images

-- each image now comes of one before
pub image_before : (step : Files → Files → Type 0) (old new : DiskState) → Passes step old new → Follows step old.may_leave new.may_leave
image_before step old new passes image left = passes.images new.moment image passes.later (omega arith) ((new.now_left image).1 left)

-- what a crash since now might have left is what it may leave now
pub present : (disk : DiskState) (image : Files) → LeftSince disk disk.moment image → disk.may_leave image
present disk image left =
    let now : left.0 ≡ disk.moment = omega (arith, left.1, left.2) in
    (disk.now_left image).0 (subst (λ (t : ℕ). disk.left_at t image) now left.3)

-- what a crash since the start of two parts might have left is of the first part or of the second
pub since_split : (step : Files → Files → Type 0) (start : ℕ) (mid new : DiskState) → Passes step mid new → (image : Files)
    → LeftSince new start image → LeftSince mid start image ⊎ LeftSince new mid.moment image
since_split step start mid new passes image left = ⊎_elim
    (λ late. inr (left.0, omega (arith, late), left.2, left.3))
    (λ early. inl (left.0, left.1, early, (passes.left left.0 image early).0 left.3))
    (cases_lt mid.moment left.0)

-- ---- calls that read no file

-- The calls from old to new took this step, in what is read and at each moment in what a crash might leave; they read no
-- file.
pub record Performs (step : Files → Files → Type 0) (old new : DiskState) : Type 0 where
  pub seen : step old.seen new.seen
  pub passes : Passes step old new
  pub reads : ReadsNothing old new

pub performs_none : (step : Files → Files → Type 0) (disk : DiskState) → ((files : Files) → step files files) → Performs step disk disk
performs_none step disk none = record { seen = none disk.seen; passes = passes_none step disk none; reads = λ name. refl }

pub performs_on : (first second whole : Files → Files → Type 0) (a b c : DiskState)
    → ((x y : Files) → first x y → whole x y) → ((x y z : Files) → first x y → second y z → whole x z)
    → Performs first a b → Performs second b c → Performs whole a c
performs_on first second whole a b c one both front back = record {
  seen = both a.seen b.seen c.seen front.seen back.seen;
  passes = passes_on first second whole a b c one (λ x y z left. both x y z) front.passes back.passes;
  reads = λ name. back.reads name ∙ front.reads name;
}

pub performs_more : (step : Files → Files → Type 0) (a b c : DiskState) → ((x y z : Files) → step x y → step y z → step x z)
    → Performs step a b → Performs step b c → Performs step a c
performs_more step a b c on = performs_on step step step a b c (λ x y is. is) on

pub performs_wider : (step whole : Files → Files → Type 0) (a b : DiskState) → ((x y : Files) → step x y → whole x y) → Performs step a b → Performs whole a b
performs_wider step whole a b wider performs = record {
  seen = wider a.seen b.seen performs.seen;
  passes = passes_wider step whole a b wider performs.passes;
  reads = performs.reads;
}

pub performs_look : {T : Type 0} (old new : DiskState) (result : Result T IoErr) → Looks old new result → Performs IsSame old new
performs_look old new result looks = record {
  seen = looks.stays.seen;
  passes = passes_look IsSame old new result (λ image name. refl) looks;
  reads = looks.reads;
}

pub performs_folder : (name : List ℕ) (old new : DiskState) (result : Result (Unit {0}) IoErr) → MakesFolder name old new result → Performs IsSame old new
performs_folder name old new result makes = record {
  seen = makes.stays.seen;
  passes = passes_folder IsSame name old new result (λ image other. refl) makes;
  reads = makes.reads;
}

pub performs_alters : (step : Files → Files → Type 0) (old new : DiskState) (result : Result (Unit {0}) IoErr) → ((files : Files) → step files files)
    → Alters step old new result → Performs step old new
performs_alters step old new result none alters = record {
  seen = alters.seen;
  passes = passes_alters step old new result none alters;
  reads = alters.reads;
}
