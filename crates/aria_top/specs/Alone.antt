-- Runs over one link without a console.
use Rattle.std.specs.Prelude.{◌==◌, ◌&&◌, ◌≡◌, ℕ, Bool, List, [], ◌∷◌, length, not}
use Rattle.command_line.specs.declared.line.CommandLine.{CommandLine}
use Rattle.dl_clock.specs.declared.clock.Clock.{Ghosts as ClockSays}
use Rattle.dl_disk.specs.declared.disk.Disk.{Ghosts as DiskSays}
use Rattle.dl_kinds.specs.declared.outside.Sink.{Ghosts as SinkSays}
use Rattle.link_source.specs.declared.Links.{Ghosts as LinkSays}
use Rattle.option_set.specs.Values.{OptionValues}
use Rattle.run_lifecycle.specs.Consoles.{is_console_on}
use Rattle.solo_run.specs.Runs.{RunsOver}
use Rattle.aria_top.specs.OneRun.{OneRun}

abbrev pub is_alone_by : ℕ → OptionValues → Bool
is_alone_by links globals = (links == 1) && not (is_console_on globals)

-- one link came, and the line turns no console on
abbrev pub is_alone : {P : Type 0} → List P → CommandLine → Bool
is_alone links line = is_alone_by (length links) line.globals

module _ {D L K A O : Type 0} (says : DiskSays D) (links : LinkSays L) (clocks : ClockSays K) (sinks : SinkSays O)
    (run : OneRun D L K A O) where
  -- It was done over the one link, by its clock, and no door was used.
  pub record RanAlone : Type 0 where
    pub link : L × K
    pub link' : L × K
    pub given : run.given.links ≡ link ∷ []
    pub left : run.came.links ≡ link' ∷ []
    pub doors : run.came.doors ≡ run.given.doors
    pub untold : run.came.transcripts ≡ []
    pub runs : RunsOver says links clocks sinks run.given.words run.given.gids run.given.disk link run.given.out
        run.came.ended link' run.came.out
