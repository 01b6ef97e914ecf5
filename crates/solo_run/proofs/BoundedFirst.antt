-- A run over the first link is bounded.
use Rattle.std.proofs.Common.{◌≡◌, ℕ, List, [], ◌∷◌, Some, subst}
use Rattle.solo_run.specs.BoundedRuns.{BoundsRun, RunsOverOneAreBounded}
use Rattle.dl_clock.specs.declared.clock.Clock.{Ghosts as ClockSays}
use Rattle.dl_disk.specs.declared.disk.Disk.{Ghosts as DiskSays}
use Rattle.dl_kinds.specs.declared.outside.Sink.{Ghosts as SinkSays}
use Rattle.link_source.specs.declared.Links.{Ghosts as LinkSays}
use Rattle.run_lifecycle.specs.declared.ended.Ended.{Ended}
use Rattle.solo_run.specs.Bounded.{BoundsFirst}
use Rattle.solo_run.specs.Runs.{RunsOver}
use Rattle.solo_run.proofs.OneLink.{over_its_one}

same_some : {A : Type 0} (x y : A) → Some x ≡ Some y → x ≡ y
same_some x y is = cc

module _ {D L K O : Type 0} {says : DiskSays D} {links : LinkSays L} {clocks : ClockSays K} {sinks : SinkSays O}
    {words : List (List ℕ)} {gids : ℕ} {disk : D} {out : O} {ended : Ended D} {out' : O} (pair pair' : L × K)
    (are : RunsOverOneAreBounded K says sinks links) where
  pub bounds_first : RunsOver says links clocks sinks words gids disk pair out ended pair' out'
      → BoundsFirst says sinks links words gids disk (pair ∷ []) out ended (pair' ∷ []) out'
  bounds_first came old new old_is new_is =
      subst (λ (n : L × K). BoundsRun says sinks links words gids disk old out ended n out') (same_some pair' new new_is)
      (subst (λ (o : L × K). BoundsRun says sinks links words gids disk o out ended pair' out')
      (same_some pair old old_is)
      (are words gids disk pair out ended pair' out' (over_its_one pair pair' came)))
