-- Runs of loads.
use Rattle.std.specs.Prelude.{◌≡◌, ℕ}
use Rattle.command_meanings.specs.Meanings.{AskForLoad}
use Rattle.dl_clock.specs.declared.clock.Clock.{Ghosts as ClockSays}
use Rattle.dl_clock.specs.declared.memory.MemClock.{MemClock}
use Rattle.dl_disk.specs.declared.disk.Disk.{Ghosts as DiskSays}
use Rattle.dl_kinds.specs.declared.outside.Sink.{Ghosts as SinkSays}
use Rattle.door_source.specs.declared.Doors.{Ghosts as DoorSays}
use Rattle.door_source.specs.declared.memory.MemDoors.{MemDoors}
use Rattle.link_source.specs.declared.Links.{Ghosts as LinkSays}
use Rattle.load_setup.specs.declared.sink.UnseenSink.{UnseenSink}
use Rattle.load_setup.specs.declared.sound_disk.SoundDisk.{SoundDisk}
use Rattle.load_setup.specs.declared.sound_links.SoundLinks.{SoundLinks}
use Rattle.run_report.specs.declared.endings.RunEnding.TheVariants.{Done}
use Rattle.self_load.specs.Inner.{IsOfInnerRun}
use Rattle.self_load.specs.Outcomes.{EndsByJournal, EndsLoad, IsRightLoad}
use Rattle.self_load.specs.declared.running.Loaded.{Loaded}
use Rattle.aria_top.specs.OneRun.{OneRun}

module _ (disks : DiskSays SoundDisk) (links : LinkSays SoundLinks) (clocks : ClockSays MemClock)
    (doors : DoorSays MemDoors) (sinks : SinkSays UnseenSink) where
  module _ {D L K A O : Type 0} (outs : SinkSays O) (run : OneRun D L K A O) where
    -- The load of this number was run over a disk and links of its own, and its line printed. The outside that was given is
    -- as it was, but for the output; and the journal and the transcripts are those of the load's run.
    pub record RanLoad (n : ℕ) : Type 0 where
      pub disk : run.came.ended.disk ≡ run.given.disk
      pub links_same : run.came.links ≡ run.given.links
      pub doors_same : run.came.doors ≡ run.given.doors
      pub loaded : Loaded
      pub ending_is : run.came.ended.ending ≡ loaded.ending
      pub journal_is : run.came.ended.journal ≡ loaded.journal
      pub transcripts_are : run.came.transcripts ≡ loaded.transcripts.items
      pub ends : EndsLoad disks links clocks doors sinks outs n run.given.out loaded run.came.out
      pub by_journal : EndsByJournal disks links clocks doors sinks outs n run.given.out loaded run.came.out
      pub inner : IsOfInnerRun disks links clocks doors sinks n loaded.journal loaded.transcripts.items
      pub right : loaded.ending ≡ Done → IsRightLoad disks links clocks doors sinks n loaded.journal

    -- words that ask for a load have it run
    abbrev pub RunsLoads : Type 0
    RunsLoads = (n : ℕ) → AskForLoad run.given.words n → RanLoad n
