-- What a run begins with.
use Rattle.std.specs.Prelude.{◌≡◌, ℕ, []}
use Rattle.machine_core.specs.TurnRooms.{IsRoomierRun}
use Rattle.option_set.specs.Values.{OptionValues}
use Rattle.stored_run.specs.declared.run.StoredView.{StoredView}

module _ {D : Type 0} where
  -- nothing happened, and no moment came
  pub record IsNewRun (disk : D) (gids : ℕ) (global : OptionValues) (doors : ℕ) (r : StoredView D) : Type 0 where
    pub disk_is : r.disk ≡ disk
    pub start : r.machine.start ≡ record { gids = gids; global = global; doors = doors }
    pub past : r.machine.past ≡ []
    pub now : r.now.0 ≡ 0

  -- only the room may be more
  pub record IsRoomier (old new : StoredView D) : Type 0 where
    pub machine : IsRoomierRun old.machine new.machine
    pub disk : new.disk ≡ old.disk
    pub wants : new.wants ≡ old.wants
    pub now : new.now ≡ old.now
