-- What each call does to a disk, from the state before it to the state after it.
use Rattle.std.specs.Prelude.{◌≡◌, ◌≢◌, ◌≤◌, ◌↔◌, ℕ, ◌+◌, List, ◌∷◌, None, IsSome, Result, OnOk, OnErr, IsErrOf}
use Rattle.dl_kinds.specs.declared.outside.IoErr.{IoErr}
use Rattle.dl_kinds.specs.declared.outside.IoErr.TheVariants.{Fault, NoMemory}
use Rattle.dl_disk.specs.Files.{Files, Follows}
use Rattle.dl_disk.specs.State.{DiskState}

-- it reads as before, and a crash leaves nothing that it might not have left before
pub record Stays (old new : DiskState) : Type 0 where
  pub seen : (name : List ℕ) → new.seen name ≡ old.seen name
  pub images : (image : Files) → new.may_leave image → old.may_leave image

-- The moment moves on by one where the call was made, and what was told of earlier moments is told still. A call that
-- wants memory isn't made.
pub record Elapses {T : Type 0} (old new : DiskState) (result : Result T IoErr) : Type 0 where
  pub later : old.moment ≤ new.moment
  pub done : OnOk result (new.moment ≡ old.moment + 1)
  pub failed : IsErrOf result Fault → new.moment ≡ old.moment + 1
  pub none : IsErrOf result NoMemory → new.moment ≡ old.moment
  pub seen : (t : ℕ) → t ≤ old.moment → new.seen_at t ≡ old.seen_at t
  pub left : (t : ℕ) (image : Files) → t ≤ old.moment → new.left_at t image ↔ old.left_at t image

-- no file was read
abbrev pub ReadsNothing : DiskState → DiskState → Type 0
ReadsNothing old new = (name : List ℕ) → new.reads name ≡ old.reads name

-- the read of this file is counted, and no other
pub record CountsRead (name : List ℕ) (old new : DiskState) (result : Result (Unit {0}) IoErr) : Type 0 where
  pub done : OnOk result (new.reads name ≡ old.reads name + 1)
  pub failed : IsErrOf result Fault → new.reads name ≡ old.reads name + 1
  pub none : IsErrOf result NoMemory → new.reads name ≡ old.reads name
  pub others : (other : List ℕ) → other ≢ name → new.reads other ≡ old.reads other

-- a call that changes nothing and reads no file
pub record Looks {T : Type 0} (old new : DiskState) (result : Result T IoErr) : Type 0 where
  pub stays : Stays old new
  pub time : Elapses old new result
  pub reads : ReadsNothing old new
  pub folders : new.folders ≡ old.folders

-- a call that reads a file and changes nothing
pub record LooksInto (name : List ℕ) (old new : DiskState) (result : Result (Unit {0}) IoErr) : Type 0 where
  pub stays : Stays old new
  pub time : Elapses old new result
  pub reads : CountsRead name old new result
  pub folders : new.folders ≡ old.folders

-- A call that changes files: what is read, and each image, comes of what was by this step, whether the call is done or
-- fails. One that wants memory changes nothing.
pub record Alters (step : Files → Files → Type 0) (old new : DiskState) (result : Result (Unit {0}) IoErr) : Type 0 where
  pub seen : step old.seen new.seen
  pub images : Follows step old.may_leave new.may_leave
  pub none : IsErrOf result NoMemory → Stays old new
  pub time : Elapses old new result
  pub reads : ReadsNothing old new
  pub folders : new.folders ≡ old.folders

-- the step is taken in what is read and in each image
pub record IsTaken (step : Files → Files → Type 0) (old new : DiskState) : Type 0 where
  pub seen : step old.seen new.seen
  pub images : Follows step old.may_leave new.may_leave

-- a call that needs this file: where it isn't there the call isn't done, and changes nothing
pub record NeedsFile (name : List ℕ) (old new : DiskState) (result : Result (Unit {0}) IoErr) : Type 0 where
  pub there : OnOk result (IsSome (old.seen name))
  pub missing : old.seen name ≡ None → Stays old new

-- a call that makes a folder, and changes no file
pub record MakesFolder (name : List ℕ) (old new : DiskState) (result : Result (Unit {0}) IoErr) : Type 0 where
  pub stays : Stays old new
  pub time : Elapses old new result
  pub reads : ReadsNothing old new
  pub made : OnOk result (new.folders ≡ name ∷ old.folders)
  pub unmade : OnErr result (new.folders ≡ old.folders)
