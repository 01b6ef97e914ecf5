-- What shows why a run was left unfinished.
use Rattle.std.specs.Prelude.{◌≡◌, ◌⊎◌, ◌++◌, ℕ, Bool, true, Contains, List, Option, reverse}
use Rattle.command_call.specs.Sources.{IsNamedCall}
use Rattle.command_line.specs.Lines.{IsLine}
use Rattle.command_line.specs.declared.line.CommandLine.{CommandLine}
use Rattle.dl_kinds.specs.declared.runs.Moment.{Moment}
use Rattle.link_source.specs.declared.Links.{Ghosts as LinkSays}
use Rattle.machine_core.specs.Reads.{is_at_rest}
use Rattle.machine_core.specs.Replays.{queue_in}
use Rattle.machine_core.specs.RunLegal.{doors_left}
use Rattle.machine_core.specs.Starts.{RunStart}
use Rattle.machine_core.specs.declared.calls.Call.{Call}
use Rattle.machine_core.specs.declared.calls.Call.TheVariants.{Shutdown}
use Rattle.machine_core.specs.declared.events.Event.{Event}
use Rattle.machine_core.specs.declared.events.Event.TheVariants.{Called}
use Rattle.run_lifecycle.specs.Begins.{start_of_line}
use Rattle.run_lifecycle.specs.Histories.{StandsFirst}
use Rattle.run_lifecycle.specs.declared.ended.Ended.{Ended}
use Rattle.run_report.specs.declared.endings.RunEnding.TheVariants.{Unfinished}
use Rattle.served_runs.specs.Completes.{WasCutShort}

-- it was told to shut down
abbrev pub WasShutDown : List Event → Type 0
WasShutDown events = (session : ℕ) × (now : Moment) × Contains events (Called session Shutdown now)

-- Behind a front of the history that begins with the line's own call no door stood, no download was active, and all that waited
-- were paused.
pub record IsLeftPaused (start : RunStart) (line : CommandLine) (events : List Event) : Type 0 where
  pub past : List Event  -- the newest first
  pub rest : List Event
  pub cut : events ≡ reverse past ++ rest
  pub none : doors_left start past ≡ 0
  pub paused : is_at_rest (queue_in start past) ≡ true
  pub call : Option Call
  pub named : IsNamedCall line.source line.settings call
  pub first : StandsFirst call (reverse past)

module _ {D L K : Type 0} (limited : Bool) (links : LinkSays L) (words : List (List ℕ)) (gids doors : ℕ)
    (olds news : List (L × K)) (ended : Ended D) where
  -- It was told to shut down, or a worker was cut short, or only paused downloads were left.
  pub record UnfinishedCauses : Type 0 where
    pub line : CommandLine
    pub means : IsLine words line
    pub why : WasShutDown ended.journal.events.items
        ⊎ WasCutShort limited links (start_of_line gids doors line.globals) olds ended news
        ⊎ IsLeftPaused (start_of_line gids doors line.globals) line ended.journal.events.items

  -- a run that is unfinished shows why
  abbrev pub ShowsUnfinished : Type 0
  ShowsUnfinished = ended.ending ≡ Unfinished → UnfinishedCauses
