-- Which way a run went, by what its words mean.
use Rattle.std.specs.Prelude.{◌≡◌, ◌⊎◌, ℕ, true, false, IsTrue, List, length}
use Rattle.command_line.specs.Lines.{IsLine}
use Rattle.command_line.specs.declared.line.CommandLine.{CommandLine}
use Rattle.command_meanings.specs.Meanings.{AskForLoad, AskToCheck, AskToServe, LackMeaning}
use Rattle.command_meanings.specs.declared.modes.CheckLine.{CheckLine}
use Rattle.command_meanings.specs.declared.modes.ServeLine.{ServeLine}
use Rattle.dl_clock.specs.declared.clock.Clock.{Ghosts as ClockSays}
use Rattle.dl_clock.specs.declared.memory.MemClock.{MemClock}
use Rattle.dl_disk.specs.declared.disk.Disk.{Ghosts as DiskSays}
use Rattle.dl_kinds.specs.declared.outside.Sink.{Ghosts as SinkSays}
use Rattle.door_source.specs.declared.Doors.{Ghosts as DoorSays}
use Rattle.door_source.specs.declared.memory.MemDoors.{MemDoors}
use Rattle.link_source.specs.declared.Links.{Ghosts as LinkSays}
use Rattle.load_setup.specs.declared.sink.UnseenSink.{UnseenSink}
use Rattle.load_setup.specs.declared.sound_disk.SoundDisk.{SoundDisk}
use Rattle.load_setup.specs.declared.sound_links.SoundLinks.{SoundLinks}
use Rattle.run_lifecycle.specs.Finishes.{PrintsRefusal}
use Rattle.run_report.specs.declared.endings.RunEnding.{RunEnding}
use Rattle.run_report.specs.declared.endings.RunEnding.TheVariants.{NoMeaning, NoMemory}
use Rattle.served_runs.specs.Over.{IsRunOver}
use Rattle.shared_run.specs.DoorsCauses.{ShowsDoors}
use Rattle.shared_run.specs.LinksLeft.{LeavesLinks}
use Rattle.shared_run.specs.RunsTogether.{RunsTogether, edges}
use Rattle.solo_run.specs.Bounded.{BoundsFirst}
use Rattle.solo_run.specs.Pieces.{CompletesPieces}
use Rattle.aria_top.specs.Alone.{RanAlone, is_alone}
use Rattle.aria_top.specs.Began.{LeftAll}
use Rattle.aria_top.specs.Loads.{RanLoad}
use Rattle.aria_top.specs.OneRun.{OneRun}
use Rattle.aria_top.specs.Origins.{RanOrigin}
use Rattle.aria_top.specs.PayloadChecks.{RanCheck}

-- the words have no meaning, or memory was wanting to read them
abbrev pub WhyRefused : List (List ℕ) → RunEnding → Type 0
WhyRefused words refusal = ((refusal ≡ NoMeaning) × LackMeaning words) ⊎ (refusal ≡ NoMemory)

module _ {D L K A O : Type 0} (sinks : SinkSays O) (run : OneRun D L K A O) where
  -- so it was refused, and nothing was touched
  pub record WasRefused : Type 0 where
    pub refusal : RunEnding
    pub why : WhyRefused run.given.words refusal
    pub disk : run.came.ended.disk ≡ run.given.disk
    pub printed : PrintsRefusal sinks refusal run.given.out run.came.out run.came.ended.ending
    pub left : LeftAll run

module _ {D L K A O : Type 0} (says : DiskSays D) (links : LinkSays L) (clocks : ClockSays K) (doors : DoorSays A)
    (sinks : SinkSays O) (run : OneRun D L K A O) where
  -- The work was done over these links: without a limit of turns, or by one worker with one.
  abbrev pub WentOver : CommandLine → Type 0
  WentOver line =
      IsRunOver says sinks (is_alone run.given.links line) links run.given.words run.given.gids (length run.given.doors)
      run.given.disk run.given.links run.given.out run.came.ended run.came.links run.came.out

  -- one link came, and no console was asked for
  pub record WentAlone (line : CommandLine) : Type 0 where
    pub means : IsLine run.given.words line
    pub alone : is_alone run.given.links line ≡ true
    pub ran : RanAlone says links clocks sinks run
    pub over : WentOver line
    pub pieces : IsTrue says.tells → IsTrue links.tells
        → CompletesPieces says links sinks run.given.words run.given.gids 0 run.given.disk run.given.links run.given.out
        run.came.ended run.came.links run.came.out
    pub bounds : BoundsFirst says sinks links run.given.words run.given.gids run.given.disk run.given.links run.given.out
        run.came.ended run.came.links run.came.out
    pub untouched : LeavesLinks says links run.given.disk run.given.links run.came.ended run.came.links
    pub shown : ShowsDoors doors clocks run.given.words run.given.gids (edges run.given.links run.given.doors)
        run.came.ended (edges run.came.links run.came.doors) run.came.transcripts

  -- several links came, or a console was asked for
  pub record WentTogether (line : CommandLine) : Type 0 where
    pub means : IsLine run.given.words line
    pub shared : is_alone run.given.links line ≡ false
    pub ran : RunsTogether says links clocks doors sinks run.given.words run.given.gids run.given.disk
        (edges run.given.links run.given.doors) run.given.out run.came.ended (edges run.came.links run.came.doors)
        run.came.transcripts run.came.out
    pub over : WentOver line
    pub untouched : LeavesLinks says links run.given.disk run.given.links run.came.ended run.came.links
    pub shown : ShowsDoors doors clocks run.given.words run.given.gids (edges run.given.links run.given.doors)
        run.came.ended (edges run.came.links run.came.doors) run.came.transcripts

  -- ---- by the words

  abbrev pub WentForDownloads : Type 0
  WentForDownloads = (line : CommandLine) × (WentAlone line ⊎ WentTogether line)

  abbrev pub WentForFolder : Type 0
  WentForFolder = (line : ServeLine) × AskToServe run.given.words line × RanOrigin says doors run line.dir

  abbrev pub WentForCheck : Type 0
  WentForCheck =
      (line : CheckLine) × AskToCheck run.given.words line × RanCheck says sinks run line.file line.dir line.copy

  abbrev pub WentWithoutLoad : Type 0
  WentWithoutLoad = WasRefused sinks run ⊎ WentForDownloads ⊎ WentForFolder ⊎ WentForCheck

  module _ (own_disks : DiskSays SoundDisk) (own_links : LinkSays SoundLinks) (own_clocks : ClockSays MemClock)
      (own_doors : DoorSays MemDoors) (own_sinks : SinkSays UnseenSink) where
    abbrev pub WentForLoad : Type 0
    WentForLoad =
        (n : ℕ) × AskForLoad run.given.words n
        × RanLoad own_disks own_links own_clocks own_doors own_sinks sinks run n

    -- Where the words ask for no load.
    abbrev pub NoLoad : Type 0
    NoLoad = (n : ℕ) → AskForLoad run.given.words n → ⊥

    abbrev pub WentByMeaning : Type 0
    WentByMeaning = WentForLoad ⊎ (NoLoad × WentWithoutLoad)
