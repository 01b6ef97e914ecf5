-- What a run promises of its disk, also after a crash.
use Rattle.std.specs.Prelude.{◌≡◌, ◌⊎◌, ℕ, List, []}
use Rattle.command_line.specs.Lines.{IsLine}
use Rattle.command_line.specs.declared.line.CommandLine.{CommandLine}
use Rattle.control_file.specs.declared.want.Want.{Want}
use Rattle.dl_disk.specs.declared.disk.Disk.{Ghosts as DiskSays}
use Rattle.engine_turns.specs.Told.{RunTurn}
use Rattle.run_lifecycle.specs.Promises.{HaveDigests, SurvivesCrash, WasSound}
use Rattle.run_lifecycle.specs.Begins.{start_of_line}
use Rattle.run_lifecycle.specs.TurnsOf.{AreTurnsOf}
use Rattle.run_lifecycle.specs.declared.ended.Ended.{Ended}

module _ {D : Type 0} (says : DiskSays D) (words : List (List ℕ)) (gids doors : ℕ) (disk : D) (ended : Ended D) where
  -- Turns came, which are the run's. Of each want for which each image of the given disk was sound: where it is told complete it has
  -- its digests, and a crash at any moment since loses nothing promised.
  pub record LeavesKept : Type 0 where
    pub line : CommandLine
    pub means : IsLine words line
    pub told : List RunTurn
    pub turns : AreTurnsOf ended (start_of_line gids doors line.globals) told
    pub complete : HaveDigests (start_of_line gids doors line.globals) told (says.state disk) (says.state ended.disk)
    pub crash : (want : Want) → WasSound (start_of_line gids doors line.globals) told (says.state disk) want
        → SurvivesCrash (start_of_line gids doors line.globals) told (says.state disk).moment (says.state ended.disk) want

  abbrev pub SurvivesRun : Type 0
  SurvivesRun = (ended.journal.events.items ≡ []) ⊎ LeavesKept
