-- What a run over one link did.
use Rattle.std.specs.Prelude.{◌≡◌, ℕ, List, [], ◌∷◌}
use Rattle.dl_clock.specs.declared.clock.Clock.{Ghosts as ClockSays}
use Rattle.dl_disk.specs.declared.disk.Disk.{Ghosts as DiskSays}
use Rattle.dl_kinds.specs.declared.outside.Sink.{Ghosts as SinkSays}
use Rattle.link_source.specs.declared.Links.{Ghosts as LinkSays}
use Rattle.run_lifecycle.specs.Results.{ended_of}
use Rattle.run_lifecycle.specs.declared.ended.Finished.{Finished}
use Rattle.solo_run.specs.Runs.{RunsOver}

module _ {D L K A : Type 0} where
  -- It was done over the first link, by its clock. Both are as they were where nothing happened, and no other one was touched.
  pub record DoesOver {O : Type 0} (says : DiskSays D) (links : LinkSays L) (clocks : ClockSays K) (sinks : SinkSays O)
      (words : List (List ℕ)) (gids : ℕ) (disk : D) (link : L × K) (others : List (L × K)) (out : O) (r : Finished D L K A)
      (out' : O) : Type 0
    where
      pub link' : L × K
      pub links_are : r.links.items ≡ link' ∷ others
      pub runs : RunsOver says links clocks sinks words gids disk link out (ended_of r) link' out'
      pub unused : r.journal.events.items ≡ [] → link' ≡ link

  abbrev pub DoesAlone : {O : Type 0} → DiskSays D → LinkSays L → ClockSays K → SinkSays O → List (List ℕ) → ℕ → D
      → List (L × K) → O → Finished D L K A → O → Type 0
  DoesAlone {O} says links clocks sinks words gids disk old out r out' =
      (link : L × K) (others : List (L × K)) → old ≡ link ∷ others
      → DoesOver says links clocks sinks words gids disk link others out r out'
