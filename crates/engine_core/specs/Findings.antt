-- What the openings and the whole checks of an operation found, as its disk reads.
use Rattle.std.specs.Prelude.{◌≡◌, Some}
use Rattle.dl_disk.specs.State.{DiskState}
use Rattle.dl_kinds.specs.declared.gid.Gid.{Gid}
use Rattle.engine_turns.specs.declared.operations.Operation.{Operation}
use Rattle.engine_turns.specs.declared.operations.Operation.TheVariants as operation
use Rattle.machine_core.specs.Claiming.{next_to_open}
use Rattle.stored_run.specs.Checks.{ChecksTruly}
use Rattle.stored_run.specs.Refused.{EndsAsRead}
use Rattle.stored_run.specs.declared.run.StoredView.{StoredView}

module _ {D : Type 0} (state : D → DiskState) where
  -- each whole check that came tells what the payload is, as the disk reads it then
  abbrev pub ChecksRead : (old new : StoredView D) → Type 0
  ChecksRead old new = ChecksTruly old new (state new.disk).seen

  -- .. and where a download is opened next, each that is refused ends as its files were read
  pub record FindsNext (old new : StoredView D) : Type 0 where
    pub checked : ChecksRead old new
    pub refused : (gid : Gid) → next_to_open old.machine.start old.machine.past ≡ Some gid
        → EndsAsRead old new (state old.disk).seen

  -- no other operation refuses a download, and none but these checks one
  abbrev pub FindsRead : Operation → (old new : StoredView D) → Type 0
  FindsRead (operation.Next worker now) old new = FindsNext old new
  FindsRead (operation.Deliver claim run bytes now) old new = ChecksRead old new
  FindsRead (operation.Seal gid sealed now) old new = ChecksRead old new
  FindsRead op old new = Unit {0}
