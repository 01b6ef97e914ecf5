-- Memory sufficed for the turns of a run over links that asked for work, unless the run ended for its want.
use Rattle.std.proofs.Common.{◌≡◌, ◌≢◌, ℕ, Bool, true, false, List, refl}
use Rattle.std.specs.Prelude.{◌||◌}
use Rattle.dl_disk.specs.declared.disk.Disk.{Ghosts as DiskSays}
use Rattle.dl_kinds.specs.declared.outside.Sink.{Ghosts as SinkSays}
use Rattle.link_source.specs.declared.Links.{Ghosts as LinkSays}
use Rattle.run_lifecycle.proofs.Ran as ran_facts
use Rattle.run_lifecycle.specs.TurnsOf.{AreFed}
use Rattle.run_lifecycle.specs.declared.ended.Ended.{Ended}
use Rattle.run_report.specs.declared.endings.RunEnding.TheVariants.{NoMemory}
use Rattle.served_runs.specs.Over.{RanOverLinks}
use Rattle.served_runs.proofs.Workers.{all_fed, ends_so}

module _ {D O L K : Type 0} {says : DiskSays D} {sinks : SinkSays O} {limited : Bool} {links : LinkSays L}
    {words : List (List ℕ)} {gids doors : ℕ} {disk : D} {olds : List (L × K)} {out : O} {ended : Ended D}
    {news : List (L × K)} {out' : O}
    (it : RanOverLinks says sinks limited links words gids doors disk olds out ended news out') where
  -- memory was wanting for nobody, where the run doesn't end so
  pub not_short : ended.ending ≢ NoMemory → (it.ran.begun.is_short || it.ran.short) ≡ false
  not_short well = by (it.ran.begun.is_short || it.ran.short) refl
    where
      by : (short : Bool) → (it.ran.begun.is_short || it.ran.short) ≡ short → (it.ran.begun.is_short || it.ran.short) ≡ false
      by false is = is
      by true is = absurd (well (ends_so sinks it.ran.engine out out' ended.ending (it.ran.begun.is_short || it.ran.short) is
          it.ran.finishes.ends))

  pub fed : ended.ending ≢ NoMemory → AreFed (ran_facts.told it.ran)
  fed well = all_fed limited links it.ran olds news (not_short well) it.over.works
