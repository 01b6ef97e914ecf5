-- What holds of a run that served a folder, or that checked a payload.
use Rattle.std.proofs.Common.{◌≡◌, inl, ⊎_elim, ℕ, List, Option, Some, sym, ◌∙◌, subst}
use Rattle.check_run.specs.Checks.{WhyNoPayload}
use Rattle.command_meanings.specs.Meanings.{AskToCheck, AskToServe}
use Rattle.command_meanings.specs.declared.meanings.Meaning.TheVariants.{Check, Serve}
use Rattle.command_meanings.specs.declared.modes.CheckLine.{CheckLine}
use Rattle.command_meanings.specs.declared.modes.ServeLine.{ServeLine}
use Rattle.dl_clock.specs.declared.clock.Clock.{Ghosts as ClockSays}
use Rattle.dl_clock.specs.declared.memory.MemClock.{MemClock}
use Rattle.dl_disk.specs.declared.disk.Disk.{Ghosts as DiskSays}
use Rattle.dl_kinds.specs.declared.outside.Sink.{Ghosts as SinkSays}
use Rattle.door_source.specs.declared.Doors.{Ghosts as DoorSays}
use Rattle.door_source.specs.declared.memory.MemDoors.{MemDoors}
use Rattle.link_source.specs.declared.Links.{Ghosts as LinkSays}
use Rattle.load_setup.specs.declared.sink.UnseenSink.{UnseenSink}
use Rattle.load_setup.specs.declared.sound_disk.SoundDisk.{SoundDisk}
use Rattle.load_setup.specs.declared.sound_links.SoundLinks.{SoundLinks}
use Rattle.origin_run.specs.Folders.{ServesBy}
use Rattle.run_lifecycle.specs.Finishes.{PrintsRefusal}
use Rattle.run_report.specs.declared.endings.RunEnding.{RunEnding}
use Rattle.run_report.specs.declared.endings.RunEnding.TheVariants.{NoMemory}
use Rattle.aria_top.specs.OneRun.{OneRun}
use Rattle.aria_top.specs.Origins.{RanOrigin, folder_of_run, left_of_run}
use Rattle.aria_top.specs.PayloadChecks.{RanCheck, check_of_run}
use Rattle.aria_top.specs.Went.{WasRefused, WentByMeaning, WentForCheck, WentForDownloads, WentForFolder}
use Rattle.aria_top.proofs.Unread.{refused_read}

same_text : (x y : List ℕ) → Some x ≡ Some y → x ≡ y
same_text x y is = cc

module _ {D L K A O : Type 0} {says : DiskSays D} {links : LinkSays L} {clocks : ClockSays K} {doors : DoorSays A}
    {sinks : SinkSays O} {run : OneRun D L K A O} {own_disks : DiskSays SoundDisk} {own_links : LinkSays SoundLinks}
    {own_clocks : ClockSays MemClock} {own_doors : DoorSays MemDoors} {own_sinks : SinkSays UnseenSink}
    (went : WentByMeaning says links clocks doors sinks run own_disks own_links own_clocks own_doors own_sinks) where
  -- ---- a folder

  module _ (line : ServeLine) (ask : AskToServe run.given.words line) where
    -- memory was wanting to read the words
    starved_folder : (was : WasRefused sinks run) → was.refusal ≡ NoMemory → RanOrigin says doors run line.dir
    starved_folder was starved =
        let printed : PrintsRefusal sinks NoMemory run.given.out run.came.out run.came.ended.ending =
        subst (λ (r : RunEnding). PrintsRefusal sinks r run.given.out run.came.out run.came.ended.ending) starved was.printed in
        record {
          served = subst (ServesBy says doors (folder_of_run says doors run line.dir) (left_of_run says doors run))
              (sym printed.0)
              (record { disk_is = was.disk; doors_are = was.left.doors; untold = was.left.untold });
          none = was.left.none;
          links = was.left.links;
          out = printed.1;
        }

    refused_folder : WasRefused sinks run → RanOrigin says doors run line.dir
    refused_folder was = ⊎_elim (λ none. absurd (none.1 (Serve line) ask)) (starved_folder was) was.why

    same_folder : WentForFolder says links clocks doors sinks run → RanOrigin says doors run line.dir
    same_folder its = subst (RanOrigin says doors run)
        (same_text its.0.dir line.dir (sym its.1.words_are.texts.dir_is ∙ ask.words_are.texts.dir_is)) its.2

    no_downloads : {P : Type 0} → WentForDownloads says links clocks doors sinks run → P
    no_downloads its = ⊎_elim (λ alone. absurd (ask.alone.line its.0 alone.means))
        (λ shared. absurd (ask.alone.line its.0 shared.means)) its.1

    pub served : RanOrigin says doors run line.dir
    served = ⊎_elim (λ load. absurd (ask.alone.load load.0 load.1))
        (λ other. ⊎_elim refused_folder (λ its. ⊎_elim no_downloads
        (λ modes. ⊎_elim same_folder (λ check. absurd (check.1.unserved line ask.words_are)) modes) its) other.1) went

  -- ---- a check

  module _ (line : CheckLine) (ask : AskToCheck run.given.words line) where
    starved_check : (was : WasRefused sinks run) → was.refusal ≡ NoMemory
        → RanCheck says sinks run line.file line.dir line.copy
    starved_check was starved = record {
      checked = inl (record {
        refusal = was.refusal;
        why = subst (WhyNoPayload says sinks (check_of_run says sinks run line.file line.dir line.copy)) (sym starved) tt;
        is_read = refused_read says links doors sinks run was;
        printed = was.printed;
      });
      left = was.left;
    }

    refused_check : WasRefused sinks run → RanCheck says sinks run line.file line.dir line.copy
    refused_check was = ⊎_elim (λ none. absurd (none.1 (Check line) ask)) (starved_check was) was.why

    same_check : WentForCheck says links clocks doors sinks run → RanCheck says sinks run line.file line.dir line.copy
    same_check its =
        let one = its.1.words_are.texts in
        let other = ask.words_are.texts in
        subst (λ (copy : Option (List ℕ)). RanCheck says sinks run line.file line.dir copy)
        (one.copy_is ∙ sym other.copy_is)
        (subst (λ (dir : List ℕ). RanCheck says sinks run line.file dir its.0.copy) (one.dir_is ∙ sym other.dir_is)
        (subst (λ (file : List ℕ). RanCheck says sinks run file its.0.dir its.0.copy)
        (same_text its.0.file line.file (sym one.file_is ∙ other.file_is)) its.2))

    no_line : {P : Type 0} → WentForDownloads says links clocks doors sinks run → P
    no_line its = ⊎_elim (λ alone. absurd (ask.alone.line its.0 alone.means))
        (λ shared. absurd (ask.alone.line its.0 shared.means)) its.1

    pub checked : RanCheck says sinks run line.file line.dir line.copy
    checked = ⊎_elim (λ load. absurd (ask.alone.load load.0 load.1))
        (λ other. ⊎_elim refused_check (λ its. ⊎_elim no_line
        (λ modes. ⊎_elim (λ folder. absurd (ask.unserved folder.0 folder.1.words_are)) same_check modes) its) other.1) went
