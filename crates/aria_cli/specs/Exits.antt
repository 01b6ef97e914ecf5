-- What the exit status of the program tells.
use Rattle.std.specs.Prelude.{◌≡◌, ℕ, List}
use Rattle.aria_top.specs.Began.{BeganOrNot}
use Rattle.aria_top.specs.Loads.{RunsLoads}
use Rattle.aria_top.specs.OneRun.{OneRun, one_run}
use Rattle.aria_top.specs.Origins.{ServesFolders}
use Rattle.aria_top.specs.PayloadChecks.{ChecksPayloads}
use Rattle.aria_top.specs.Promises.{Does, HasEnding}
use Rattle.dl_clock.specs.declared.clock.Clock.{Ghosts as ClockSays}
use Rattle.dl_clock.specs.declared.memory.MemClock.{MemClock}
use Rattle.dl_disk.specs.declared.disk.Disk.{Ghosts as DiskSays}
use Rattle.dl_kinds.specs.declared.outside.Sink.{Ghosts as SinkSays}
use Rattle.door_source.specs.declared.Doors.{Ghosts as DoorSays}
use Rattle.door_source.specs.declared.memory.MemDoors.{MemDoors}
use Rattle.link_source.specs.declared.Links.{Ghosts as LinkSays}
use Rattle.load_setup.specs.declared.sink.UnseenSink.{UnseenSink}
use Rattle.load_setup.specs.declared.sound_disk.SoundDisk.{SoundDisk}
use Rattle.load_setup.specs.declared.sound_links.SoundLinks.{SoundLinks}
use Rattle.run_report.specs.Endings.{code_of_ending}
use Rattle.shared_run.specs.declared.finished.FinishedRun.{FinishedRun}

module _ (disks : DiskSays SoundDisk) (links : LinkSays SoundLinks) (clocks : ClockSays MemClock)
    (doors : DoorSays MemDoors) (sinks : SinkSays UnseenSink) where
  module _ {D L K A O : Type 0} (own_disk : DiskSays D) (own_links : LinkSays L) (own_clocks : ClockSays K)
      (own_doors : DoorSays A) (out : SinkSays O) where
    -- It is the code of the ending of this run.
    pub record IsExitOf (run : OneRun D L K A O) (code : ℕ) : Type 0 where
      pub code_is : code ≡ code_of_ending run.came.ended.ending
      pub began : BeganOrNot run own_disk out
      pub ending : HasEnding own_disk out run
      pub does : Does own_disk own_links own_clocks own_doors out run
      pub loads : RunsLoads disks links clocks doors sinks out run
      pub serves : ServesFolders own_disk own_doors run
      pub checks : ChecksPayloads own_disk out run

    -- .. of the run of what it was given, whose output is this one now
    abbrev pub ExitsByOwnRun : List (List ℕ) → ℕ → D → List (L × K) → List (A × K) → O → O → ℕ → Type 0
    ExitsByOwnRun words gids disk link_list door_list old new code =
        (left : FinishedRun D L K A) × IsExitOf (one_run words gids disk link_list door_list old left new) code

    -- .. of a run of these words
    pub record ExitsByRun (words : List (List ℕ)) (code : ℕ) : Type 0 where
      pub run : OneRun D L K A O
      pub words_are : run.given.words ≡ words
      pub its : IsExitOf run code

    -- .. of some words
    abbrev pub ExitsBySome : ℕ → Type 0
    ExitsBySome code = (words : List (List ℕ)) × ExitsByRun words code
