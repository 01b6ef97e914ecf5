-- What a run was, by a line that its words mean.
use Rattle.std.proofs.Common.{◌≡◌, ◌⊎◌, inl, inr, ⊎_elim, ℕ, List, length, subst}
use Rattle.command_line.specs.LineLaws.{LinesAreOne}
use Rattle.command_line.specs.Lines.{IsLine}
use Rattle.command_line.specs.declared.line.CommandLine.{CommandLine}
use Rattle.command_meanings.specs.Meanings.{LackMeaning, LoadWordsAreNoLine}
use Rattle.command_meanings.specs.declared.meanings.Meaning.TheVariants.{Download}
use Rattle.dl_clock.specs.declared.clock.Clock.{Ghosts as ClockSays}
use Rattle.dl_clock.specs.declared.memory.MemClock.{MemClock}
use Rattle.dl_disk.specs.declared.disk.Disk.{Ghosts as DiskSays}
use Rattle.dl_kinds.specs.declared.outside.Sink.{Ghosts as SinkSays}
use Rattle.door_source.specs.declared.Doors.{Ghosts as DoorSays}
use Rattle.door_source.specs.declared.memory.MemDoors.{MemDoors}
use Rattle.link_source.specs.declared.Links.{Ghosts as LinkSays}
use Rattle.load_setup.specs.declared.sink.UnseenSink.{UnseenSink}
use Rattle.load_setup.specs.declared.sound_disk.SoundDisk.{SoundDisk}
use Rattle.load_setup.specs.declared.sound_links.SoundLinks.{SoundLinks}
use Rattle.run_lifecycle.specs.Finishes.{IsWholeRun}
use Rattle.run_report.specs.declared.endings.RunEnding.TheVariants.{NoMemory}
use Rattle.served_runs.specs.Over.{IsRunOver}
use Rattle.shared_run.specs.DoorsCauses.{ShowsDoors}
use Rattle.shared_run.specs.LinksLeft.{LeavesLinks}
use Rattle.shared_run.specs.RunsTogether.{edges}
use Rattle.aria_top.specs.Alone.{is_alone}
use Rattle.aria_top.specs.OneRun.{OneRun}
use Rattle.aria_top.specs.Went.{WasRefused, WentAlone, WentByMeaning, WentForDownloads, WentTogether}
use Rattle.aria_top.proofs.Unread.{refused_doors, refused_links, refused_never}

module _ {D L K A O : Type 0} {says : DiskSays D} {links : LinkSays L} {clocks : ClockSays K} {doors : DoorSays A}
    {sinks : SinkSays O} {run : OneRun D L K A O} {own_disks : DiskSays SoundDisk} {own_links : LinkSays SoundLinks}
    {own_clocks : ClockSays MemClock} {own_doors : DoorSays MemDoors} {own_sinks : SinkSays UnseenSink}
    (one : LinesAreOne) (none : LoadWordsAreNoLine)
    (went : WentByMeaning says links clocks doors sinks run own_disks own_links own_clocks own_doors own_sinks)
    (line : CommandLine) (means : IsLine run.given.words line) where
  -- it was refused for want of memory, or its downloads were run by this line
  abbrev pub ByLine : Type 0
  ByLine =
      ((was : WasRefused sinks run) × (was.refusal ≡ NoMemory))
      ⊎ WentAlone says links clocks doors sinks run line ⊎ WentTogether says links clocks doors sinks run line

  has_meaning : {P : Type 0} → LackMeaning run.given.words → P
  has_meaning lacks = absurd (lacks (Download line) means)

  by_refused : (was : WasRefused sinks run) → ByLine
  by_refused was = inl (was, ⊎_elim (λ none. has_meaning none.1) (λ starved. starved) was.why)

  by_download : WentForDownloads says links clocks doors sinks run → ByLine
  by_download its = ⊎_elim
      (λ (alone : WentAlone says links clocks doors sinks run its.0).
      inr (inl (subst (WentAlone says links clocks doors sinks run) (one run.given.words its.0 line alone.means means) alone)))
      (λ (shared : WentTogether says links clocks doors sinks run its.0).
      inr (inr (subst (WentTogether says links clocks doors sinks run)
      (one run.given.words its.0 line shared.means means) shared)))
      its.1

  pub by_line : ByLine
  by_line = ⊎_elim
      (λ load. absurd (none load.0 line (subst (λ (ws : List (List ℕ)). IsLine ws line) load.1.1 means)))
      (λ other. ⊎_elim by_refused (λ its. ⊎_elim by_download
      (λ modes. absurd (⊎_elim (λ folder. folder.1.alone.line line means) (λ check. check.1.alone.line line means) modes)) its)
      other.1) went

  abbrev pub Over : Type 0
  Over = IsRunOver says sinks (is_alone run.given.links line) links run.given.words run.given.gids (length run.given.doors)
      run.given.disk run.given.links run.given.out run.came.ended run.came.links run.came.out

  pub over : Over
  over = ⊎_elim (λ was. inl (refused_never says links doors sinks run was.0 was.1))
      (λ downloads. ⊎_elim (λ alone. alone.over) (λ shared. shared.over) downloads) by_line

  pub whole : IsWholeRun says sinks run.given.words run.given.gids (length run.given.doors) run.given.disk run.given.out
      run.came.ended run.came.out
  whole = ⊎_elim (λ never. inl never) (λ ran. inr ran.ran) over

  pub untouched : LeavesLinks says links run.given.disk run.given.links run.came.ended run.came.links
  untouched = ⊎_elim (λ was. refused_links says links doors sinks run was.0)
      (λ downloads. ⊎_elim (λ alone. alone.untouched) (λ shared. shared.untouched) downloads) by_line

  pub shown : ShowsDoors doors clocks run.given.words run.given.gids (edges run.given.links run.given.doors)
      run.came.ended (edges run.came.links run.came.doors) run.came.transcripts
  shown = ⊎_elim (λ was. refused_doors says links doors sinks run was.0 clocks)
      (λ downloads. ⊎_elim (λ alone. alone.shown) (λ shared. shared.shown) downloads) by_line
