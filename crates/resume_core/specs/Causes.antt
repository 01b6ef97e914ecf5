-- When a call of the store fails.
use Rattle.std.specs.Prelude.{◌≡◌, ◌≤◌, ℕ, Result, OnOk, IsErrOf}
use Rattle.dl_kinds.specs.Counts.{Rose}
use Rattle.dl_kinds.specs.declared.outside.IoErr.{IoErr}
use Rattle.dl_kinds.specs.declared.outside.IoErr.TheVariants.{Fault, NoMemory as OutOfMemory}
use Rattle.resume_core.specs.declared.fault.StoreErr.{StoreErr}
use Rattle.resume_core.specs.declared.fault.StoreErr.TheVariants.{Disk, NoMemory}
use Rattle.resume_core.specs.declared.refusing.OpenErr.{OpenErr}
use Rattle.resume_core.specs.declared.refusing.OpenErr.TheVariants.{Disk as Unopened, NoMemory as NoRoom}

-- what a failed call of the disk makes of a call of the store
abbrev pub store_err_of : IoErr → StoreErr
store_err_of Fault = Disk
store_err_of OutOfMemory = NoMemory

abbrev pub IsFailedBy : IoErr → StoreErr → Type 0
IsFailedBy from err = err ≡ store_err_of from

-- The disk's count of faults rises, up to its last value, where a fault of the disk is answered, and there alone.
pub record HasStoreCause {T : Type 0} (before now : ℕ) (result : Result T StoreErr) : Type 0 where
  pub later : before ≤ now
  pub done : OnOk result (now ≡ before)
  pub disk : IsErrOf result Disk → Rose before now
  pub none : IsErrOf result NoMemory → now ≡ before

-- what a failed call makes of an opening
abbrev pub open_err_of : StoreErr → OpenErr
open_err_of Disk = Unopened
open_err_of NoMemory = NoRoom

abbrev pub IsUnopenedFor : StoreErr → OpenErr → Type 0
IsUnopenedFor from err = err ≡ open_err_of from

abbrev pub IsUnopenedBy : IoErr → OpenErr → Type 0
IsUnopenedBy from err = err ≡ open_err_of (store_err_of from)
