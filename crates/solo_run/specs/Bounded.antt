-- How much comes of a run over the first link.
use Rattle.std.specs.Prelude.{◌≡◌, ℕ, List, Some, slice_get}
use Rattle.solo_run.specs.BoundedRuns.{BoundsRun}
use Rattle.dl_disk.specs.declared.disk.Disk.{Ghosts as DiskSays}
use Rattle.dl_kinds.specs.declared.outside.Sink.{Ghosts as SinkSays}
use Rattle.link_source.specs.declared.Links.{Ghosts as LinkSays}
use Rattle.run_lifecycle.specs.declared.ended.Ended.{Ended}

module _ {D O L K : Type 0} (says : DiskSays D) (sinks : SinkSays O) (links : LinkSays L) where
  -- it is bounded, by the first of the links, before and after
  abbrev pub BoundsFirst : List (List ℕ) → ℕ → D → List (L × K) → O → Ended D → List (L × K) → O
      → Type 0
  BoundsFirst words gids disk olds out ended news out' =
      (old new : L × K) → slice_get olds 0 ≡ Some old → slice_get news 0 ≡ Some new
      → BoundsRun says sinks links words gids disk old out ended new out'
