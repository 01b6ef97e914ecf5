-- What comes of a load, by what its run left.
use Rattle.std.proofs.Common.{◌≡◌, ◌≢◌, ◌⊎◌, ⊎_elim, ◌∙◌, ◌+◌, arith, ℕ, ◌<◌, List, ap, sym, refl, inl, inr}
use Rattle.dl_clock.specs.declared.clock.Clock.{Ghosts as ClockSays}
use Rattle.dl_clock.specs.declared.memory.MemClock.{MemClock}
use Rattle.dl_disk.specs.declared.disk.Disk.{Ghosts as DiskSays}
use Rattle.dl_kinds.specs.declared.outside.Sink.{Ghosts as SinkSays}
use Rattle.door_source.specs.declared.Doors.{Ghosts as DoorSays}
use Rattle.door_source.specs.declared.memory.MemDoors.{MemDoors}
use Rattle.link_source.specs.declared.Links.{Ghosts as LinkSays}
use Rattle.load_setup.proofs.Groups.{all_right}
use Rattle.load_setup.specs.Payload.{digests_of, right_pieces}
use Rattle.load_setup.specs.declared.sink.UnseenSink.{UnseenSink}
use Rattle.load_setup.specs.declared.sound_disk.SoundDisk.{SoundDisk}
use Rattle.load_setup.specs.declared.sound_links.SoundLinks.{SoundLinks}
use Rattle.machine_core.specs.declared.journal.Journal.{Journal}
use Rattle.run_report.specs.declared.endings.RunEnding.{RunEnding}
use Rattle.run_report.specs.declared.endings.RunEnding.TheVariants as ending
use Rattle.self_load.specs.Inner.{EndsAsLoad, EndsFull, IsInnerRun, IsWholePayload, Left, payload_left}
use Rattle.self_load.specs.Outcomes.{ComesOf, IsCountOf, IsDoneByJournal, IsRightLoad, ending_of_outcome}
use Rattle.self_load.specs.declared.outcome.Outcome.{Outcome}
use Rattle.self_load.specs.declared.outcome.Outcome.TheVariants.{Counted, Failed}

-- of a whole payload all pieces are right
all_whole : (digests : List (List ℕ)) (payload : List ℕ) → IsWholePayload digests payload
    → right_pieces digests payload ≡ 64
all_whole digests payload whole =
    all_right digests payload 0 64 (λ piece from to. whole piece (bounded piece to))
  where
    bounded : (piece : ℕ) → piece < 0 + 64 → piece < 64
    bounded piece to = omega (arith, to)

-- an ending is one
unfinished_undone : (how : RunEnding) → how ≡ ending.Unfinished → how ≢ ending.Done
unfinished_undone how is done = absurd (let never : ending.Unfinished ≡ ending.Done = sym is ∙ done in cc)

unfinished_fed : (how : RunEnding) → how ≡ ending.Unfinished → how ≢ ending.NoMemory
unfinished_fed how is starved = absurd (let never : ending.Unfinished ≡ ending.NoMemory = sym is ∙ starved in cc)

module _ (disks : DiskSays SoundDisk) (links : LinkSays SoundLinks)
    (clocks : ClockSays MemClock) (doors : DoorSays MemDoors) (sinks : SinkSays UnseenSink) where
  pub counted_comes : (n : ℕ) (left : Left) (digests : List (List ℕ)) (outcome : Outcome)
      → IsInnerRun disks links clocks doors sinks n left
      → EndsAsLoad n left → left.ending ≡ ending.Done → digests ≡ digests_of n → IsCountOf digests
      (payload_left left) outcome
      → ComesOf disks links clocks doors sinks n outcome left.journal
  counted_comes n left digests (Counted right digest) inner ends done digests_are is = record {
    left = left;
    journal_is = refl;
    inner = inner;
    done = done;
    complete = ends.complete done;
    right_is = is.0 ∙ (ap (λ ds. right_pieces ds (payload_left left)) digests_are
        ∙ all_whole (digests_of n) (payload_left left) (ends.whole done));
    whole = ends.whole done;
    digest_is = is.1;
  }
  counted_comes n left digests (Failed how) inner ends done digests_are is = absurd is

  pub failed_comes : (n : ℕ) (left : Left) → IsInnerRun disks links clocks doors sinks n left → EndsAsLoad n left
      → left.ending ≢ ending.Done → ComesOf disks links clocks doors sinks n (Failed left.ending) left.journal
  failed_comes n left inner ends undone = ⊎_elim (λ (done : left.ending ≡ ending.Done). absurd (undone done))
      (λ more. ⊎_elim (λ (starved : left.ending ≡ ending.NoMemory). inl starved)
      (λ (full : EndsFull left). inr (record {
        left = left;
        journal_is = refl;
        inner = inner;
        ended = refl;
        full = full;
        incomplete = λ told. ⊎_elim (unfinished_undone left.ending full.0) (unfinished_fed left.ending full.0)
            (ends.done told);
      })) more) ends.otherwise

  -- a load that is done is right
  pub right_load : (n : ℕ) (outcome : Outcome) (how : RunEnding) (journal : Journal)
      → ComesOf disks links clocks doors sinks n outcome journal
      → how ≡ ending_of_outcome outcome → how ≡ ending.Done → IsRightLoad disks links clocks doors sinks n journal
  right_load n (Counted right digest) how journal comes how_is done = record {
    left = comes.left;
    journal_is = comes.journal_is;
    inner = comes.inner;
    done = comes.done;
    complete = comes.complete;
    whole = comes.whole;
    all = all_whole (digests_of n) (payload_left comes.left) comes.whole;
  }
  right_load n (Failed other) how journal (inl starved) how_is done =
      absurd (let never : ending.NoMemory ≡ ending.Done = sym starved ∙ sym how_is ∙ done in cc)
  right_load n (Failed other) how journal (inr failed) how_is done =
      absurd (unfinished_undone failed.left.ending failed.full.0 (failed.ended ∙ sym how_is ∙ done))

  -- .. and done by its journal, unless memory was wanting
  pub by_journal : (n : ℕ) (outcome : Outcome) (how : RunEnding) (journal : Journal)
      → ComesOf disks links clocks doors sinks n outcome journal → how ≡ ending_of_outcome outcome
      → IsDoneByJournal disks links clocks doors sinks n how journal ⊎ (how ≡ ending.NoMemory)
  by_journal n (Counted right digest) how journal comes how_is = inl (record {
    left = comes.left;
    journal_is = comes.journal_is;
    inner = comes.inner;
    ended = comes.done ∙ sym how_is;
    complete = λ done. comes.complete;
    done = λ told. how_is;
    otherwise = inl how_is;
  })
  by_journal n (Failed other) how journal (inl starved) how_is = inr (how_is ∙ starved)
  by_journal n (Failed other) how journal (inr failed) how_is = inl (record {
    left = failed.left;
    journal_is = failed.journal_is;
    inner = failed.inner;
    ended = failed.ended ∙ sym how_is;
    complete = λ done.
        absurd (unfinished_undone failed.left.ending failed.full.0 (failed.ended ∙ sym how_is ∙ done));
    done = λ told. absurd (failed.incomplete told);
    otherwise = inr failed.full;
  })
