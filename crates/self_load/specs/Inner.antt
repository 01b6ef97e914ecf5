-- The run of a load.
use Rattle.std.specs.Prelude.{◌≡◌, ◌⊎◌, ◌<◌, ◌+◌, ℕ, true, Contains, List, [], ◌∷◌, length}
use Rattle.shared_run.specs.RunsTogether.{RunsTogether, edges, edges_left, ended_run}
use Rattle.shared_run.specs.declared.finished.FinishedRun.{FinishedRun}
use Rattle.console_session.specs.declared.serving.Transcript.{Transcript}
use Rattle.dl_clock.specs.declared.clock.Clock.{Ghosts as ClockSays}
use Rattle.dl_clock.specs.declared.memory.MemClock.{MemClock}
use Rattle.dl_disk.specs.declared.disk.Disk.{Ghosts as DiskSays}
use Rattle.dl_kinds.specs.declared.gid.Gid.{Gid}
use Rattle.dl_kinds.specs.declared.outside.Sink.{Ghosts as SinkSays}
use Rattle.door_source.specs.declared.Doors.{Ghosts as DoorSays}
use Rattle.door_source.specs.declared.memory.MemDoors.{MemDoors}
use Rattle.engine_turns.specs.RunTurns.{is_nearly_full}
use Rattle.link_source.specs.declared.Links.{Ghosts as LinkSays}
use Rattle.load_setup.specs.Disk.{IsLoadDisk, payload_read}
use Rattle.load_setup.specs.Links.{IsLoadLink}
use Rattle.load_setup.specs.Payload.{digests_of, is_right_piece}
use Rattle.load_setup.specs.Sound.{sound_reading}
use Rattle.load_setup.specs.Words.{run_words}
use Rattle.load_setup.specs.declared.links.TheConstants.{LOAD_LINKS}
use Rattle.load_setup.specs.declared.payload.TheConstants.{PIECES}
use Rattle.load_setup.specs.declared.sink.UnseenSink.{UnseenSink}
use Rattle.load_setup.specs.declared.sound_disk.SoundDisk.{SoundDisk}
use Rattle.load_setup.specs.declared.sound_links.SoundLinks.{SoundLinks}
use Rattle.machine_core.specs.declared.ends.End.TheVariants.{Complete}
use Rattle.machine_core.specs.declared.events.Event.TheVariants.{Ended}
use Rattle.machine_core.specs.declared.journal.Journal.{Journal}
use Rattle.run_report.specs.declared.endings.RunEnding.TheVariants.{Done, NoMemory, Unfinished}
use Rattle.self_load.specs.declared.inner.TheConstants.{GIDS}

-- they are the load's links, from one number on
abbrev pub AreLinksFrom : ℕ → ℕ → List (SoundLinks × MemClock) → Type 0
AreLinksFrom n first [] = Unit {0}
AreLinksFrom n first (link ∷ links) = IsLoadLink n first link.0 × AreLinksFrom n (first + 1) links

-- .. all of them
abbrev pub AreLoadLinks : ℕ → List (SoundLinks × MemClock) → Type 0
AreLoadLinks n links = (length links ≡ LOAD_LINKS) × AreLinksFrom n 0 links

-- what is left of a run in memory
abbrev pub Left : Type 0
Left = FinishedRun SoundDisk SoundLinks MemClock MemDoors

abbrev pub payload_left : Left → List ℕ
payload_left left = payload_read (sound_reading left.disk)

-- the journal that is left tells that a download is complete
abbrev pub HasComplete : Left → Type 0
HasComplete left = (gid : Gid) × Contains left.journal.events.items (Ended gid Complete)

-- each piece of the payload has its digest
abbrev pub IsWholePayload : List (List ℕ) → List ℕ → Type 0
IsWholePayload digests payload =
    (piece : ℕ) → piece < PIECES → is_right_piece digests payload piece ≡ true

-- the run is unfinished, and its journal has fewer free entries than the events of a turn may take
abbrev pub EndsFull : Left → Type 0
EndsFull left =
    (left.ending ≡ Unfinished) × (is_nearly_full left.journal.events.items ≡ true)

-- no run had begun, for want of memory: nothing stands in the journal, and no door was served
abbrev pub HasNoRun : Journal → List Transcript → Type 0
HasNoRun journal transcripts = (journal.events.items ≡ []) × (transcripts ≡ [])

-- Its run is done just where its journal has its Complete, unless memory was wanting; and then the
-- payload is whole. Where it isn't done memory was wanting, or it ended by a full journal.
pub record EndsAsLoad (n : ℕ) (left : Left) : Type 0 where
  pub complete : left.ending ≡ Done → HasComplete left
  pub done : HasComplete left → (left.ending ≡ Done) ⊎ (left.ending ≡ NoMemory)
  pub whole : left.ending ≡ Done → IsWholePayload (digests_of n) (payload_left left)
  pub otherwise : (left.ending ≡ Done) ⊎ (left.ending ≡ NoMemory) ⊎ EndsFull left

module _ (disks : DiskSays SoundDisk) (links : LinkSays SoundLinks)
    (clocks : ClockSays MemClock) (doors : DoorSays MemDoors) (sinks : SinkSays UnseenSink) where
  -- What is left of the run of the load's words over its disk and its links, without doors.
  pub record IsInnerRun (n : ℕ) (left : Left) : Type 0 where
    pub words : List (List ℕ)
    pub words_are : words ≡ run_words
    pub disk : SoundDisk
    pub disk_is : IsLoadDisk (digests_of n) disk
    pub olds : List (SoundLinks × MemClock)
    pub olds_are : AreLoadLinks n olds
    pub none : List (MemDoors × MemClock)
    pub none_are : none ≡ []
    pub sink : UnseenSink
    pub shown : UnseenSink
    pub does : RunsTogether disks links clocks doors sinks words GIDS disk (edges olds none) sink
        (ended_run left) (edges_left left) left.transcripts.items shown

  -- the journal and the transcripts are those of the load's run; or there was none
  abbrev pub IsOfInnerRun : ℕ → Journal → List Transcript → Type 0
  IsOfInnerRun n journal transcripts =
      ((left : Left) × IsInnerRun n left × (left.journal ≡ journal) × (left.transcripts.items ≡ transcripts))
      ⊎ HasNoRun journal transcripts
