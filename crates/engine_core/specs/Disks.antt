-- What an operation did to the disk.
use Rattle.std.specs.Prelude.{◌≡◌, ◌⊎◌, None, Some}
use Rattle.dl_disk.specs.State.{DiskState}
use Rattle.dl_kinds.specs.declared.gid.Gid.{Gid}
use Rattle.engine_turns.specs.declared.operations.Operation.{Operation}
use Rattle.engine_turns.specs.declared.operations.Said.{Said}
use Rattle.machine_core.specs.Claiming.{next_to_open}
use Rattle.stored_run.specs.Leavings.{LeavesDisk}
use Rattle.stored_run.specs.Opening.{OpensDisk}
use Rattle.stored_run.specs.Writings.{KeepsPayloads}
use Rattle.stored_run.specs.declared.run.StoredView.{StoredView}
use Rattle.engine_core.specs.Askings.{IsNext}
use Rattle.engine_core.specs.Writings.{WritesRun}
use Rattle.engine_core.specs.declared.state.EngineState.{EngineState}

module _ {D : Type 0} where
  -- nothing came between them, whatever the moment and the room
  pub record IsAlike (old new : StoredView D) : Type 0 where
    pub start : new.machine.start ≡ old.machine.start
    pub past : new.machine.past ≡ old.machine.past
    pub wants : new.wants ≡ old.wants
    pub disk : new.disk ≡ old.disk

module _ {D : Type 0} (state : D → DiskState) where
  -- of each download that went on it left what its saves say
  pub record Leaves (old new : StoredView D) : Type 0 where
    pub mid : StoredView D
    pub alike : IsAlike old mid
    pub leaves : LeavesDisk mid new (state mid.disk) (state new.disk)

  -- the store was to open the download that comes next
  pub record OpensNext (op : Operation) (old new : StoredView D) (said : Said) : Type 0 where
    pub mid : StoredView D
    pub alike : IsAlike old mid
    pub gid : Gid
    pub asked : IsNext op
    pub next : next_to_open old.machine.start old.machine.past ≡ Some gid
    pub opens : OpensDisk gid mid new said (state mid.disk) (state new.disk)

  -- .. with its payload
  pub record LeavesPayloads (old new : StoredView D) : Type 0 where
    pub leaves : Leaves old new
    pub payloads : KeepsPayloads leaves.mid (state leaves.mid.disk) (state new.disk)

  -- where nothing is opened or delivered
  abbrev pub LeavesRun : (old new : StoredView D) → Type 0
  LeavesRun old new = IsAlike old new ⊎ LeavesPayloads old new

  -- .. though a worker asked; with what it wrote
  pub record LeavesUnopened (op : Operation) (old new : StoredView D) (said : Said) : Type 0 where
    pub leaves : Leaves old new
    pub none : IsNext op → next_to_open old.machine.start old.machine.past ≡ None
    pub writes : WritesRun op leaves.mid new said (state leaves.mid.disk) (state new.disk)

  abbrev pub LeavesTurn : Operation → (old new : EngineState D) → Said → Type 0
  LeavesTurn op old new said =
      IsAlike old.run new.run ⊎ LeavesUnopened op old.run new.run said ⊎ OpensNext op old.run new.run said
