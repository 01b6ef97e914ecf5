-- What turns leave of the disk that an engine was given.
use Rattle.std.specs.Prelude.{◌≡◌, ℕ, Bool, IsTrue, List, [], ◌∷◌, ◌++◌, reverse}
use Rattle.dl_disk.specs.Passes.{Passes}
use Rattle.dl_disk.specs.State.{DiskState}
use Rattle.engine_turns.specs.RunTurns.{ties_turn}
use Rattle.engine_turns.specs.Told.{RunTurn}
use Rattle.machine_core.specs.declared.events.Event.{Event}
use Rattle.option_set.specs.Values.{OptionValues}
use Rattle.stored_run.specs.Leavings.{AnyChange}
use Rattle.turn_desk.specs.declared.turn.Stamp.{Stamp}
use Rattle.engine_core.specs.EngineViews.{EngineStart, EngineView}
use Rattle.engine_core.specs.Engines.{StandsAfter, entries_of, stamp_of, start_of}

-- The disk goes on from the one that was given: it tells of each moment up to the given one's what that one told, and the
-- oldest turn began at its moment.
pub record GoesOnFrom (told : List RunTurn) (given now : DiskState) : Type 0 where
  pub passes : Passes AnyChange given now
  pub first : (newer : List RunTurn) (t : RunTurn) → told ≡ newer ++ t ∷ [] → t.before.time ≡ given.moment

module _ {D : Type 0} where
  abbrev pub beginning_of : EngineView D → EngineStart D
  beginning_of v = record { run = start_of v.state; disk = v.given }

  abbrev pub ties_run : EngineStart D → List RunTurn → RunTurn → Type 0
  ties_run start turns t = ties_turn start.run turns t

  abbrev pub events_in : EngineView D → List Event
  events_in v = entries_of v.state

module _ {D : Type 0} (tells : Bool) (state : D → DiskState) where
  -- an engine stands for these turns, of which the newest is the first, from the disk on that it was given
  pub record StandsFrom (v : EngineView D) (told : List RunTurn) : Type 0 where
    pub stands : StandsAfter tells state v.state told
    pub goes_on : IsTrue tells → GoesOnFrom told (state v.given) (state v.state.run.disk)
    pub untouched : told ≡ [] → v.state.run.disk ≡ v.given

  -- .. with the oldest first, as a desk lists them
  abbrev pub stands_for : EngineView D → List RunTurn → Type 0
  stands_for v turns = StandsFrom v (reverse turns)

  abbrev pub mark_of : (D → ℕ) → EngineView D → Stamp
  mark_of faults v = stamp_of tells state faults v.state

  -- no turn was taken
  pub record IsNewEngine (disk : D) (gids : ℕ) (global : OptionValues) (doors : ℕ) (v : EngineView D) : Type 0 where
    pub given : v.given ≡ disk
    pub disk_is : v.state.run.disk ≡ disk
    pub start : start_of v.state ≡ record { gids = gids; global = global; doors = doors }
    pub stands : StandsFrom v []
