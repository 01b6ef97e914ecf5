-- What an engine keeps of a run, and which turns it stands for.
use Rattle.std.specs.Prelude.{◌≡◌, ℕ, Bool, true, false, IsTrue, All, List, reverse}
use Rattle.dl_disk.specs.State.{DiskState}
use Rattle.machine_core.specs.Starts.{RunStart}
use Rattle.machine_core.specs.declared.events.Event.{Event}
use Rattle.turn_desk.specs.declared.turn.Stamp.{Stamp}
use Rattle.engine_turns.specs.Standings.{RunStanding, standing_after}
use Rattle.engine_turns.specs.Told.{RunTurn, latest_moment}
use Rattle.engine_core.specs.Buckets.{HasRates}
use Rattle.engine_core.specs.Durable.{KeepsPromises}
use Rattle.engine_core.specs.Handing.{IsOut}
use Rattle.engine_core.specs.TurnReads.{TurnsFitDisk}
use Rattle.engine_core.specs.declared.state.EngineState.{EngineState}

-- the moment of a disk that tells what it holds
abbrev pub moment_told : Bool → DiskState → ℕ
moment_told true disk = disk.moment
moment_told false disk = 0

module _ {D : Type 0} where
  abbrev pub start_of : EngineState D → RunStart
  start_of e = e.run.machine.start

  abbrev pub past_of : EngineState D → List Event
  past_of e = e.run.machine.past

  -- what the next turn goes by
  abbrev pub standing_of : EngineState D → RunStanding
  standing_of e =
      record {
        past = past_of e;
        handed = e.handed.pieces;
        overall = e.limits.overall;
        own = e.limits.own;
      }

  abbrev pub entries_of : EngineState D → List Event
  entries_of e = reverse (past_of e)

  -- the buckets have the rates of the options
  abbrev pub KeepsRates : EngineState D → Type 0
  KeepsRates e = HasRates (start_of e) (past_of e) e.limits

  -- .. and each piece that is handed out awaits its finding
  pub record IsEngineState (e : EngineState D) : Type 0 where
    pub rates : KeepsRates e
    pub out : All (IsOut (start_of e) (past_of e)) e.handed.pieces

module _ {D : Type 0} (tells : Bool) (state : D → DiskState) where
  -- All that it goes by is what these turns tell, of which the newest is the first; and where the disk tells what it holds,
  -- it keeps what they promise, whenever a crash comes, and each turn was as the disk reads.
  pub record StandsAfter (e : EngineState D) (told : List RunTurn) : Type 0 where
    pub now : e.run.now.0 ≡ latest_moment told
    pub is : standing_of e ≡ standing_after (start_of e) told
    pub disk : IsTrue tells → KeepsPromises (start_of e) told (state e.run.disk)
    pub reads : IsTrue tells → TurnsFitDisk (start_of e) told (state e.run.disk)

  -- the moment of the disk, where it is told, and how often it failed
  abbrev pub stamp_of : (D → ℕ) → EngineState D → Stamp
  stamp_of faults e = record { time = moment_told tells (state e.run.disk); faults = faults e.run.disk }
