-- What holds of a run by the way that it went.
use Rattle.std.proofs.Common.{◌≡◌, inl, inr, ⊎_elim, ℕ, Bool, true, false, sym, ◌∙◌, subst}
use Rattle.std.specs.Bool.{MatchBool}
use Rattle.std.specs.Prelude.{IsTrue}
use Rattle.std.proofs.lemmas.Bool.{false≢true}
use Rattle.command_line.specs.LineLaws.{LinesAreOne}
use Rattle.command_line.specs.Lines.{IsLine}
use Rattle.command_line.specs.declared.line.CommandLine.{CommandLine}
use Rattle.command_meanings.specs.Meanings.{AskForLoad, LoadWordsAreNoLine}
use Rattle.command_meanings.proofs.NoLine.{same_load}
use Rattle.dl_clock.specs.declared.clock.Clock.{Ghosts as ClockSays}
use Rattle.dl_clock.specs.declared.memory.MemClock.{MemClock}
use Rattle.dl_disk.specs.declared.disk.Disk.{Ghosts as DiskSays}
use Rattle.dl_kinds.specs.declared.outside.Sink.{Ghosts as SinkSays}
use Rattle.door_source.specs.declared.Doors.{Ghosts as DoorSays}
use Rattle.door_source.specs.declared.memory.MemDoors.{MemDoors}
use Rattle.link_source.specs.declared.Links.{Ghosts as LinkSays}
use Rattle.load_setup.specs.declared.sink.UnseenSink.{UnseenSink}
use Rattle.load_setup.specs.declared.sound_disk.SoundDisk.{SoundDisk}
use Rattle.load_setup.specs.declared.sound_links.SoundLinks.{SoundLinks}
use Rattle.shared_run.specs.RunsTogether.{RunsTogether, edges}
use Rattle.solo_run.specs.Bounded.{BoundsFirst}
use Rattle.solo_run.specs.Pieces.{CompletesPieces}
use Rattle.aria_top.specs.Alone.{RanAlone, is_alone}
use Rattle.aria_top.specs.Began.{Began}
use Rattle.aria_top.specs.Loads.{RanLoad}
use Rattle.aria_top.specs.OneRun.{OneRun}
use Rattle.aria_top.specs.Went.{WentByMeaning}
use Rattle.aria_top.proofs.Begun.{bounds_nothing, some_events, starved_ending}
use Rattle.aria_top.proofs.Lines.{by_line}

module _ {D L K A O : Type 0} {says : DiskSays D} {links : LinkSays L} {clocks : ClockSays K} {doors : DoorSays A}
    {sinks : SinkSays O} {run : OneRun D L K A O} {own_disks : DiskSays SoundDisk} {own_links : LinkSays SoundLinks}
    {own_clocks : ClockSays MemClock} {own_doors : DoorSays MemDoors} {own_sinks : SinkSays UnseenSink} where
  module _ (one : LinesAreOne) (none : LoadWordsAreNoLine)
      (went : WentByMeaning says links clocks doors sinks run own_disks own_links own_clocks own_doors own_sinks)
      (line : CommandLine) where
    not_both : {P : Type 0} → is_alone run.given.links line ≡ true → is_alone run.given.links line ≡ false → P
    not_both alone shared = absurd (false≢true (sym shared ∙ alone))

    pub pieces_so : IsLine run.given.words line → is_alone run.given.links line ≡ true → IsTrue says.tells
        → IsTrue links.tells
        → CompletesPieces says links sinks run.given.words run.given.gids 0 run.given.disk run.given.links run.given.out
        run.came.ended run.came.links run.came.out
    pieces_so means alone told linked = ⊎_elim
        (λ was. λ other meta uris served. inr (inl (starved_ending was.0 was.1)))
        (λ downloads. ⊎_elim (λ its. its.pieces told linked) (λ its. not_both alone its.shared) downloads)
        (by_line one none went line means)

    pub bounds_so : IsLine run.given.words line → is_alone run.given.links line ≡ true
        → BoundsFirst says sinks links run.given.words run.given.gids run.given.disk run.given.links run.given.out
        run.came.ended run.came.links run.came.out
    bounds_so means alone = ⊎_elim (λ was. bounds_nothing says links sinks run was.0.left.none)
        (λ downloads. ⊎_elim (λ its. its.bounds) (λ its. not_both alone its.shared) downloads)
        (by_line one none went line means)

    abbrev Together : Type 0
    Together = RunsTogether says links clocks doors sinks run.given.words run.given.gids run.given.disk
        (edges run.given.links run.given.doors) run.given.out run.came.ended (edges run.came.links run.came.doors)
        run.came.transcripts run.came.out

    abbrev DoesSo : Bool → Type 0
    DoesSo alone = MatchBool alone (RanAlone says links clocks sinks run) Together

    pub does_so : (begun : Began run line) → DoesSo (is_alone run.given.links line)
    does_so begun = ⊎_elim (λ was. some_events line begun was.0.left.none)
        (λ downloads. ⊎_elim (λ its. subst DoesSo (sym its.alone) its.ran) (λ its. subst DoesSo (sym its.shared) its.ran)
        downloads)
        (by_line one none went line begun.means)

  -- the load is the one that was asked for
  pub loaded : (went : WentByMeaning says links clocks doors sinks run own_disks own_links own_clocks own_doors own_sinks)
      → (n : ℕ) → AskForLoad run.given.words n → RanLoad own_disks own_links own_clocks own_doors own_sinks sinks run n
  loaded went n ask = ⊎_elim
      (λ load. subst (RanLoad own_disks own_links own_clocks own_doors own_sinks sinks run)
      (same_load run.given.words load.0 n load.1 ask) load.2)
      (λ other. absurd (other.0 n ask)) went
