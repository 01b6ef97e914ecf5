-- Runs over one link are bounded.
use Rattle.std.proofs.Common.{◌≡◌, inl, inr, ℕ, List, Some, None, sym, ap, ◌∙◌, subst}
use Rattle.std.specs.Prelude.{reverse}
use Rattle.served_runs.proofs.LineOptions.{line_usual}
use Rattle.command_line.specs.LineLaws.{LinesAreOne}
use Rattle.command_line.specs.Lines.{IsLine}
use Rattle.command_line.specs.declared.line.CommandLine.{CommandLine}
use Rattle.dl_disk.specs.declared.disk.Disk.{Ghosts as DiskSays}
use Rattle.dl_kinds.specs.declared.outside.Sink.{Ghosts as SinkSays}
use Rattle.link_source.specs.declared.Links.{Ghosts as LinkSays}
use Rattle.machine_core.specs.RunLegal.{LengthsStay, download_in}
use Rattle.machine_core.specs.declared.events.Event.{Event}
use Rattle.run_lifecycle.specs.Begins.{start_of_line}
use Rattle.solo_run.proofs.FewEvents.{HistoryLaws}
use Rattle.solo_run.proofs.FewTurns.{TurnLaws, few_turns}
use Rattle.solo_run.proofs.OneRun.{StopLaws, run_is_bounded}
use Rattle.run_lifecycle.specs.Finishes.{NeverBegan}
use Rattle.run_lifecycle.specs.declared.ended.Ended.{Ended}
use Rattle.solo_run.specs.Pieces.{RanOverOne}
use Rattle.solo_run.specs.BoundedRuns.{BoundsRun, IsBoundedRun, RunsOverOneAreBounded}

module _ {D O L : Type 0} (K : Type 0) (says : DiskSays D) (sinks : SinkSays O) (links : LinkSays L) where
  run_bounded : LinesAreOne → LengthsStay → StopLaws → HistoryLaws → TurnLaws says sinks
      → (words : List (List ℕ)) (gids : ℕ) (disk : D) (old : L × K) (out : O) (ended : Ended D) (new : L × K) (out' : O)
      → RanOverOne says sinks links words gids 0 disk old out ended new out'
      → BoundsRun says sinks links words gids disk old out ended new out'
  run_bounded lines stay stops laws turns words gids disk old out ended new out' one line download means added =
      subst (λ (l : CommandLine). (means : IsLine words l)
      → download_in (start_of_line gids 0 l.globals) (reverse ended.journal.events.items) download.gid ≡ Some download
      → IsBoundedRun says sinks links words gids disk old out ended new out' l download)
      (lines words one.over.ran.begins.line line one.over.ran.begins.means means)
      (λ its_means its_added.
      let few = run_is_bounded one stay stops laws download its_added in
      record {
        events = few;
        turns = λ tells told_link off. few_turns one stay stops turns
            (line_usual words one.over.ran.begins.line its_means off) off tells told_link download few;
      }) means added

  unbegun_bounded : (words : List (List ℕ)) (gids : ℕ) (disk : D) (old new : L × K) (out : O) (ended : Ended D) (out' : O)
      → NeverBegan says sinks words disk out ended out'
      → BoundsRun says sinks links words gids disk old out ended new out'
  unbegun_bounded words gids disk old new out ended out' never line download means added =
      absurd (let none : None ≡ Some download =
      ap (λ (items : List Event). download_in (start_of_line gids 0 line.globals) (reverse items) download.gid)
      (sym never.journal) ∙ added in cc)

  pub runs_bounded : LinesAreOne → LengthsStay → StopLaws → HistoryLaws → TurnLaws says sinks
      → RunsOverOneAreBounded K says sinks links
  runs_bounded lines stay stops laws turns words gids disk old out ended new out' (inl never) =
      unbegun_bounded words gids disk old new out ended out' never
  runs_bounded lines stay stops laws turns words gids disk old out ended new out' (inr one) =
      run_bounded lines stay stops laws turns words gids disk old out ended new out' one
