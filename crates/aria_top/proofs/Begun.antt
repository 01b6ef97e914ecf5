-- What is promised of a run that began, and why one didn't.
use Rattle.std.proofs.Common.{◌≡◌, ◌⊎◌, inl, inr, ⊎_elim, List, [], ◌∷◌, Some, length, refl, sym, ap, ◌∙◌, subst, arith}
use Rattle.std.specs.Prelude.{Contains, reverse}
use Rattle.command_line.specs.LineLaws.{LinesAreOne}
use Rattle.command_line.specs.Lines.{IsLine}
use Rattle.command_line.specs.declared.line.CommandLine.{CommandLine}
use Rattle.command_meanings.specs.Meanings.{LackMeaning}
use Rattle.command_meanings.specs.declared.meanings.Meaning.TheVariants as meaning
use Rattle.dl_clock.specs.declared.clock.Clock.{Ghosts as ClockSays}
use Rattle.dl_clock.specs.declared.memory.MemClock.{MemClock}
use Rattle.dl_disk.specs.declared.disk.Disk.{Ghosts as DiskSays}
use Rattle.dl_kinds.specs.declared.outside.Sink.{Ghosts as SinkSays}
use Rattle.door_source.specs.declared.Doors.{Ghosts as DoorSays}
use Rattle.door_source.specs.declared.memory.MemDoors.{MemDoors}
use Rattle.link_source.specs.declared.Links.{Ghosts as LinkSays}
use Rattle.load_setup.specs.declared.sink.UnseenSink.{UnseenSink}
use Rattle.load_setup.specs.declared.sound_disk.SoundDisk.{SoundDisk}
use Rattle.load_setup.specs.declared.sound_links.SoundLinks.{SoundLinks}
use Rattle.machine_core.specs.RunLegal.{download_in}
use Rattle.dl_kinds.specs.declared.gid.Gid.{Gid}
use Rattle.machine_core.specs.Starts.{Download, RunStart}
use Rattle.machine_core.specs.declared.events.Event.{Event}
use Rattle.machine_core.specs.declared.events.Event.TheVariants.{Stopped}
use Rattle.run_lifecycle.specs.Begins.{EndsUnbegun, start_of_line}
use Rattle.run_lifecycle.specs.Endings.{EndsAsShown, ShowsEnding}
use Rattle.run_lifecycle.specs.Finishes.{NeverBegan, PrintsRefusal}
use Rattle.run_lifecycle.specs.FrameLaws.{BegunAreStopped}
use Rattle.run_lifecycle.specs.Printing.{PrintsText}
use Rattle.run_lifecycle.specs.Untouched.{OnlyReads}
use Rattle.run_report.specs.Failures.{ending_by_history}
use Rattle.run_report.specs.declared.endings.RunEnding.{RunEnding}
use Rattle.run_report.specs.declared.endings.RunEnding.TheVariants.{NoMeaning, NoMemory, NoMetainfo, SinkFault}
use Rattle.shared_run.specs.RunsTogether.{RunsTogether, edges}
use Rattle.shared_run.specs.Together.{Edges}
use Rattle.shared_run.proofs.Framed as shared_frame
use Rattle.solo_run.specs.Bounded.{BoundsFirst}
use Rattle.solo_run.proofs.Framed as solo_frame
use Rattle.aria_top.specs.Alone.{RanAlone}
use Rattle.aria_top.specs.Began.{Began, BeganOrNot, EndedUnbegun, WhyUnbegun}
use Rattle.aria_top.specs.OneRun.{OneRun, events_of_run}
use Rattle.aria_top.specs.Promises.{IsEndingOf, PrintsSummaryOnce}
use Rattle.aria_top.specs.Went.{WasRefused, WentByMeaning, WentForDownloads}
use Rattle.aria_top.proofs.Unread.{refused_read}

none_there : {P : Type 0} → Contains [] Stopped → P
none_there there = absurd (let within = there.1 in omega (arith, within))

-- ---- of a run that began

module _ {D L K A O : Type 0} {run : OneRun D L K A O} (line : CommandLine) (begun : Began run line) where
  pub some_events : {P : Type 0} → events_of_run run ≡ [] → P
  some_events none = none_there (subst (λ (es : List Event). Contains es Stopped) none begun.stopped)

  pub of_events : {X : Type 0} → (events_of_run run ≡ []) ⊎ X → X
  of_events {X} holds = ⊎_elim (λ (none : events_of_run run ≡ []). some_events none) (λ (x : X). x) holds

  module _ (says : DiskSays D) (sinks : SinkSays O) where
    pub ending_of : LinesAreOne
        → EndsAsShown says sinks run.given.words run.given.gids (length run.given.doors) run.given.disk run.given.out
        run.came.ended run.came.out → OnlyReads says run.given.disk run.came.ended
        → IsEndingOf says sinks run line run.came.ended.ending
    ending_of one shown reads = by run.came.ended.ending refl shown.shown
      where
        by : (how : RunEnding) → run.came.ended.ending ≡ how
            → ShowsEnding says sinks run.given.words run.given.gids (length run.given.doors) run.given.disk run.given.out
            run.came.ended run.came.out how → IsEndingOf says sinks run line how
        by NoMeaning is shows = some_events (reads.meaning is).1
        by (NoMetainfo why) is shows = some_events (reads.metainfo why is)
        by NoMemory is shows = tt
        by SinkFault is shows = shows
        by told is shows = subst
            (λ (l : CommandLine). told ≡ ending_by_history
            (start_of_line run.given.gids (length run.given.doors) l.globals) (reverse (events_of_run run)))
            (one run.given.words shows.line line shows.means begun.means) shows.is

    pub printed_once : PrintsText says sinks run.given.words run.given.gids (length run.given.doors) run.given.disk
        run.given.out run.came.ended run.came.out → PrintsSummaryOnce says sinks run
    printed_once printed = record {
      text = printed.text;
      is = ⊎_elim (λ refusal. some_events refusal.none) (λ summary. summary) printed.is;
      front = printed.front;
      rest = printed.rest;
      is_front = printed.is_front;
      taken = printed.taken;
      all = printed.all;
    }

-- ---- of a run that didn't

module _ {D L K A O : Type 0} {sinks : SinkSays O} {run : OneRun D L K A O} where
  pub starved_ending : (was : WasRefused sinks run) → was.refusal ≡ NoMemory → run.came.ended.ending ≡ NoMemory
  starved_ending was is =
      (subst (λ (r : RunEnding). PrintsRefusal sinks r run.given.out run.came.out run.came.ended.ending) is was.printed).0

  pub refused_ending : (was : WasRefused sinks run)
      → (run.came.ended.ending ≡ NoMeaning) ⊎ (run.came.ended.ending ≡ NoMemory)
  refused_ending was = ⊎_elim
      (λ (why : (was.refusal ≡ NoMeaning) × LackMeaning run.given.words).
      let printed : PrintsRefusal sinks NoMeaning run.given.out run.came.out run.came.ended.ending =
      subst (λ (r : RunEnding). PrintsRefusal sinks r run.given.out run.came.out run.came.ended.ending) why.0 was.printed in
      printed.0)
      (λ starved. inr (starved_ending was starved)) was.why

module _ {D L K A O : Type 0} (says : DiskSays D) (sinks : SinkSays O) (run : OneRun D L K A O) where
  -- a line that has a meaning isn't refused for want of one
  why_of : (line : CommandLine) → IsLine run.given.words line → (refusal : RunEnding)
      → EndsUnbegun says run.given.words run.given.disk run.came.ended.disk refusal → WhyUnbegun run says sinks refusal
  why_of line means NoMeaning (inl words) = absurd (words.0 line means)
  why_of line means NoMemory (inl words) = inr (inr refl)
  why_of line means other (inl words) = absurd words.0
  why_of line means refusal (inr why) = inr why

  never_began : (line : CommandLine) → IsLine run.given.words line
      → NeverBegan says sinks run.given.words run.given.disk run.given.out run.came.ended run.came.out
      → run.came.transcripts ≡ [] → run.came.links ≡ run.given.links → run.came.doors ≡ run.given.doors
      → EndedUnbegun run says sinks
  never_began line means never untold links_same doors_same = record {
    refusal = never.refusal;
    why = why_of line means never.refusal never.ends;
    printed = never.prints;
    reads = never.is_read;
    left = record { none = never.journal; untold = untold; links = links_same; doors = doors_same };
  }

module _ {D L K A O : Type 0} (says : DiskSays D) (links : LinkSays L) (clocks : ClockSays K) (doors : DoorSays A)
    (sinks : SinkSays O) (run : OneRun D L K A O) (stopped : BegunAreStopped says sinks) where
  refused_began : (was : WasRefused sinks run) → BeganOrNot run says sinks
  refused_began was = inl (record {
    refusal = was.refusal;
    why = ⊎_elim (λ none. inl (none.0, none.1, was.disk)) (λ starved. inr (inr starved)) was.why;
    printed = was.printed;
    reads = refused_read says links doors sinks run was;
    left = was.left;
  })

  alone_began : (line : CommandLine) → IsLine run.given.words line → (ran : RanAlone says links clocks sinks run)
      → BeganOrNot run says sinks
  alone_began line means ran = ⊎_elim
      (λ never. inl (never_began says sinks run line means never.0 ran.untold
      (ran.left ∙ ap (λ (pair : L × K). pair ∷ []) never.1 ∙ sym ran.given) ran.doors))
      (λ its. inr (inl (
        line,
        record {
          means = means;
          stopped = stopped run.given.words run.given.gids 0 run.given.disk run.given.out run.came.ended run.came.out
              (solo_frame.framed its);
        },
      ))) ran.runs

  shared_began : (line : CommandLine) → IsLine run.given.words line
      → RunsTogether says links clocks doors sinks run.given.words run.given.gids run.given.disk
      (edges run.given.links run.given.doors) run.given.out run.came.ended (edges run.came.links run.came.doors)
      run.came.transcripts run.came.out
      → BeganOrNot run says sinks
  shared_began line means ran = ⊎_elim
      (λ never. inl (never_began says sinks run line means never.0 never.2 (ap (λ (e : Edges L A K). e.links) never.1)
      (ap (λ (e : Edges L A K). e.doors) never.1)))
      (λ its. inr (inl (
        line,
        record {
          means = means;
          stopped = stopped run.given.words run.given.gids (length run.given.doors) run.given.disk run.given.out
              run.came.ended run.came.out (shared_frame.framed its);
        },
      ))) ran

  module _ {own_disks : DiskSays SoundDisk} {own_links : LinkSays SoundLinks} {own_clocks : ClockSays MemClock}
      {own_doors : DoorSays MemDoors} {own_sinks : SinkSays UnseenSink}
      (went : WentByMeaning says links clocks doors sinks run own_disks own_links own_clocks own_doors own_sinks) where
    downloads_began : WentForDownloads says links clocks doors sinks run → BeganOrNot run says sinks
    downloads_began its = ⊎_elim (λ alone. alone_began its.0 alone.means alone.ran)
        (λ shared. shared_began its.0 shared.means shared.ran) its.1

    pub began_or_not : BeganOrNot run says sinks
    began_or_not = ⊎_elim (λ load. inr (inr (inl (load.0, load.1))))
        (λ other. ⊎_elim (λ was. refused_began was) (λ its. ⊎_elim (λ downloads. downloads_began downloads)
        (λ modes. inr (inr (inr (⊎_elim (λ folder. inl (folder.0, folder.1)) (λ check. inr (check.0, check.1)) modes)))) its)
        other.1) went

    -- words without a meaning were refused
    pub words_first : LackMeaning run.given.words
        → (run.came.ended.ending ≡ NoMeaning) ⊎ (run.came.ended.ending ≡ NoMemory)
    words_first lacks = ⊎_elim (λ load. absurd (lacks (meaning.Load load.0) load.1))
        (λ other. ⊎_elim (λ was. refused_ending was) (λ its. ⊎_elim downloads_lack
        (λ modes. ⊎_elim (λ folder. absurd (lacks (meaning.Serve folder.0) folder.1))
        (λ check. absurd (lacks (meaning.Check check.0) check.1)) modes) its) other.1) went
      where
        downloads_lack : {P : Type 0} → WentForDownloads says links clocks doors sinks run → P
        downloads_lack its = ⊎_elim (λ alone. absurd (lacks (meaning.Download its.0) alone.means))
            (λ shared. absurd (lacks (meaning.Download its.0) shared.means)) its.1

-- ---- bounds

nothing_added : {P : Type 0} (start : RunStart) (events : List Event) (gid : Gid) (download : Download) → events ≡ []
    → download_in start (reverse events) gid ≡ Some download → P
nothing_added start events gid download none is =
    absurd (let bad : download_in start (reverse []) gid ≡ Some download =
    ap (λ (es : List Event). download_in start (reverse es) gid) (sym none) ∙ is in cc)

-- nothing was added where nothing happened
pub bounds_nothing : {D L K A O : Type 0} (says : DiskSays D) (links : LinkSays L) (sinks : SinkSays O)
    (run : OneRun D L K A O) → events_of_run run ≡ []
    → BoundsFirst says sinks links run.given.words run.given.gids run.given.disk run.given.links run.given.out
    run.came.ended run.came.links run.came.out
bounds_nothing says links sinks run none old new old_is new_is line download means is =
    nothing_added (start_of_line run.given.gids 0 line.globals) (events_of_run run) download.gid download none is
