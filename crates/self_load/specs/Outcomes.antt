-- What comes of a load, and how that is told.
use Rattle.std.specs.Prelude.{◌≡◌, ◌⊎◌, ◌++◌, ℕ, IsTrue, List}
use Rattle.dl_clock.specs.declared.clock.Clock.{Ghosts as ClockSays}
use Rattle.dl_clock.specs.declared.memory.MemClock.{MemClock}
use Rattle.dl_disk.specs.declared.disk.Disk.{Ghosts as DiskSays}
use Rattle.dl_kinds.specs.declared.outside.Sink.{Ghosts as SinkSays}
use Rattle.dl_kinds.specs.Counts.{Rose}
use Rattle.door_source.specs.declared.Doors.{Ghosts as DoorSays}
use Rattle.door_source.specs.declared.memory.MemDoors.{MemDoors}
use Rattle.link_source.specs.declared.Links.{Ghosts as LinkSays}
use Rattle.load_setup.specs.Line.{failed_line, whole_line}
use Rattle.load_setup.specs.Payload.{digests_of, right_pieces}
use Rattle.load_setup.specs.declared.payload.TheConstants.{PIECES}
use Rattle.load_setup.specs.declared.sink.UnseenSink.{UnseenSink}
use Rattle.load_setup.specs.declared.sound_disk.SoundDisk.{SoundDisk}
use Rattle.load_setup.specs.declared.sound_links.SoundLinks.{SoundLinks}
use Rattle.machine_core.specs.declared.journal.Journal.{Journal}
use Rattle.run_report.specs.Endings.{code_of_ending}
use Rattle.run_report.specs.declared.endings.RunEnding.{RunEnding}
use Rattle.run_report.specs.declared.endings.RunEnding.TheVariants as ending
use Rattle.sha1.specs.Sha1.{sha1}
use Rattle.self_load.specs.Inner.{EndsFull, HasComplete, IsInnerRun, IsWholePayload, Left, payload_left}
use Rattle.self_load.specs.declared.outcome.Outcome.{Outcome}
use Rattle.self_load.specs.declared.outcome.Outcome.TheVariants.{Counted, Failed}
use Rattle.self_load.specs.declared.running.Loaded.{Loaded}

-- so a load ends of which this comes
abbrev pub ending_of_outcome : Outcome → RunEnding
ending_of_outcome (Counted right digest) = ending.Done
ending_of_outcome (Failed how) = how

abbrev pub line_by : ℕ → Outcome → List ℕ
line_by n (Counted right digest) = whole_line n right digest
line_by n (Failed how) = failed_line n (code_of_ending how)

-- of the pieces of this payload so many are right, and this is its digest
abbrev pub IsCountOf : List (List ℕ) → List ℕ → Outcome → Type 0
IsCountOf digests payload (Counted right digest) =
    (right ≡ right_pieces digests payload) × (digest ≡ sha1 payload)
IsCountOf digests payload (Failed how) = ⊥

module _ (disks : DiskSays SoundDisk) (links : LinkSays SoundLinks)
    (clocks : ClockSays MemClock) (doors : DoorSays MemDoors) (sinks : SinkSays UnseenSink) where
  -- Its run was done, and its journal, which is this, has its Complete. All pieces on its disk are
  -- right, and this is the digest of the payload there.
  pub record IsCounted (n right : ℕ) (digest : List ℕ) (journal : Journal) : Type 0 where
    pub left : Left
    pub journal_is : journal ≡ left.journal
    pub inner : IsInnerRun disks links clocks doors sinks n left
    pub done : left.ending ≡ ending.Done
    pub complete : HasComplete left
    pub right_is : right ≡ PIECES
    pub whole : IsWholePayload (digests_of n) (payload_left left)
    pub digest_is : digest ≡ sha1 (payload_left left)

  -- Its run is unfinished, with this journal, which is full and has no Complete.
  pub record IsLeftUnfinished (n : ℕ) (how : RunEnding) (journal : Journal) : Type 0 where
    pub left : Left
    pub journal_is : journal ≡ left.journal
    pub inner : IsInnerRun disks links clocks doors sinks n left
    pub ended : left.ending ≡ how
    pub full : EndsFull left
    pub incomplete : ¬ HasComplete left

  -- it comes of the load; nothing shows want of memory
  abbrev pub ComesOf : ℕ → Outcome → Journal → Type 0
  ComesOf n (Counted right digest) journal = IsCounted n right digest journal
  ComesOf n (Failed how) journal = (how ≡ ending.NoMemory) ⊎ IsLeftUnfinished n how journal

  -- Its run was done, and its journal, which is this, has its Complete. On its disk each piece has its
  -- digest, so that all are counted.
  pub record IsRightLoad (n : ℕ) (journal : Journal) : Type 0 where
    pub left : Left
    pub journal_is : journal ≡ left.journal
    pub inner : IsInnerRun disks links clocks doors sinks n left
    pub done : left.ending ≡ ending.Done
    pub complete : HasComplete left
    pub whole : IsWholePayload (digests_of n) (payload_left left)
    pub all : right_pieces (digests_of n) (payload_left left) ≡ PIECES

  -- The load is done just where the journal of its run, which is this, has its Complete, and otherwise
  -- it is unfinished, and the journal full.
  pub record IsDoneByJournal (n : ℕ) (how : RunEnding) (journal : Journal) : Type 0 where
    pub left : Left
    pub journal_is : journal ≡ left.journal
    pub inner : IsInnerRun disks links clocks doors sinks n left
    pub ended : left.ending ≡ how
    pub complete : how ≡ ending.Done → HasComplete left
    pub done : HasComplete left → how ≡ ending.Done
    pub otherwise : (how ≡ ending.Done) ⊎ EndsFull left

  module _ {O : Type 0} (outs : SinkSays O) where
    -- it has the ending of what came of the load, whose line alone was printed
    pub record IsToldLoad (n : ℕ) (out : O) (loaded : Loaded) (out' : O) : Type 0 where
      pub outcome : Outcome
      pub comes : ComesOf n outcome loaded.journal
      pub ending_is : loaded.ending ≡ ending_of_outcome outcome
      pub line : IsTrue outs.tells → outs.taken out' ≡ outs.taken out ++ line_by n outcome

    -- that, or memory was wanting, or the output failed
    abbrev pub EndsLoad : ℕ → O → Loaded → O → Type 0
    EndsLoad n out loaded out' =
        IsToldLoad n out loaded out' ⊎ (loaded.ending ≡ ending.NoMemory)
        ⊎ ((loaded.ending ≡ ending.SinkFault) × Rose (outs.faults out) (outs.faults out'))

    -- it is done by its journal, or memory was wanting, or the output failed
    abbrev pub EndsByJournal : ℕ → O → Loaded → O → Type 0
    EndsByJournal n out loaded out' =
        IsDoneByJournal n loaded.ending loaded.journal ⊎ (loaded.ending ≡ ending.NoMemory)
        ⊎ ((loaded.ending ≡ ending.SinkFault) × Rose (outs.faults out) (outs.faults out'))
